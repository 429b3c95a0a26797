-- Lists of choices, of runs and of parts.
use Rattle.std.proofs.Common.{◌≡◌, ◌⊎◌, List, [], ◌∷◌, ◌++◌, map, refl, ap, sym, subst, inl, inr, append_assoc}
use Rattle.loom_objects.specs.declared.choice.Choice.{Choice}
use Rattle.loom_engine.specs.Walk.Choices.{same}
use Rattle.loom_engine.specs.Walk.Lists.{Member, IsOnce}
use Rattle.loom_engine.proofs.Walk.Lists.{cancel_front}
use Rattle.loom_engine.specs.Parts.Cuts.{Part, IsIn}

-- two beginnings of one list
pub data TwoStarts (a b : List Choice) : Type 0 where
  are_same : a ≡ b → TwoStarts a b
  is_shorter : (c : Choice) (f : List Choice) → b ≡ a ++ c ∷ f → TwoStarts a b
  is_longer : (c : Choice) (f : List Choice) → a ≡ b ++ c ∷ f → TwoStarts a b

start_on : (x : Choice) (a b : List Choice) → TwoStarts a b → TwoStarts (x ∷ a) (x ∷ b)
start_on x a b (are_same e) = are_same (ap (λ t. x ∷ t) e)
start_on x a b (is_shorter c f e) = is_shorter c f (ap (λ t. x ∷ t) e)
start_on x a b (is_longer c f e) = is_longer c f (ap (λ t. x ∷ t) e)

pub two_starts : (a e b g : List Choice) → a ++ e ≡ b ++ g → TwoStarts a b
two_starts [] e [] g h = are_same refl
two_starts [] e (y ∷ b) g h = is_shorter y b refl
two_starts (x ∷ a) e [] g h = is_longer x a refl
two_starts (x ∷ a) e (y ∷ b) g h =
    let first : x ≡ y = cc h in
    let tail : a ++ e ≡ b ++ g = cc h in
    subst (λ z. TwoStarts (x ∷ a) (z ∷ b)) first (start_on x a b (two_starts a e b g tail))

-- lists of choices can be told apart
pub same_list : (a b : List Choice) → Dec (a ≡ b)
same_list [] [] = yes refl
same_list [] (y ∷ b) = no (λ e. cc e)
same_list (x ∷ a) [] = no (λ e. cc e)
same_list (x ∷ a) (y ∷ b) = go (same x y) (same_list a b)
  where
    go : Dec (x ≡ y) → Dec (a ≡ b) → Dec (x ∷ a ≡ y ∷ b)
    go (yes e) (yes f) = yes (cc (e, f))
    go (yes e) (no f) = no (λ g. f (cc g))
    go (no e) d = no (λ g. e (cc g))

-- how one option ends a list of choices
pub data LastOption (b : List Choice) (o : Choice) (before : List Choice) (c : Choice) (e : List Choice) : Type 0 where
  is_last : before ≡ b → c ≡ o → e ≡ [] → LastOption b o before c e
  is_before : (f : List Choice) → b ≡ before ++ c ∷ f → e ≡ f ++ o ∷ [] → LastOption b o before c e

last_on : (x : Choice) (b : List Choice) (o : Choice) (before : List Choice) (c : Choice) (e : List Choice) → LastOption b o before c e → LastOption (x ∷ b) o (x ∷ before) c e
last_on x b o before c e (is_last h g i) = is_last (ap (λ t. x ∷ t) h) g i
last_on x b o before c e (is_before f h g) = is_before f (ap (λ t. x ∷ t) h) g

nothing_after : (before : List Choice) (c : Choice) (e : List Choice) → [] ≡ before ++ c ∷ e → ⊥
nothing_after [] c e h = cc h
nothing_after (x ∷ before) c e h = cc h

pub last_option : (b : List Choice) (o : Choice) (before : List Choice) (c : Choice) (e : List Choice) → b ++ o ∷ [] ≡ before ++ c ∷ e → LastOption b o before c e
last_option [] o [] c e h = is_last refl (cc h) (cc h)
last_option [] o (x ∷ before) c e h = absurd (nothing_after before c e (cc h))
last_option (y ∷ b) o [] c e h = let first : y ≡ c = cc h in is_before b (ap (λ t. t ∷ b) first) (cc h)
last_option (y ∷ b) o (x ∷ before) c e h =
    let first : y ≡ x = cc h in
    let tail : b ++ o ∷ [] ≡ before ++ c ∷ e = cc h in
    subst (λ z. LastOption (y ∷ b) o (z ∷ before) c e) first (last_on y b o before c e (last_option b o before c e tail))

pub same_next : (xs : List Choice) (a c : Choice) (ys zs : List Choice) → xs ++ a ∷ ys ≡ xs ++ c ∷ zs → a ≡ c
same_next xs a c ys zs h = cc (cancel_front xs (a ∷ ys) (c ∷ zs) h)

-- a beginning and one more choice of another
pub past_first : (b f : List Choice) (c : Choice) (e : List Choice) → (b ++ f) ++ c ∷ e ≡ b ++ (f ++ c ∷ e)
past_first b f c e = append_assoc b f (c ∷ e)

pub same_options : (b d : List Choice) (o x : Choice) → b ++ o ∷ [] ≡ d ++ x ∷ [] → (b ≡ d) × (o ≡ x)
same_options b d o x h = go (last_option b o d x [] h)
  where
    nil_after : (f : List Choice) → [] ≡ f ++ o ∷ [] → ⊥
    nil_after [] g = cc g
    nil_after (y ∷ f) g = cc g

    go : LastOption b o d x [] → (b ≡ d) × (o ≡ x)
    go (is_last i j k) = (sym i, sym j)
    go (is_before f i j) = absurd (nil_after f j)

pub not_nothing : (before : List Choice) (c : Choice) (e : List Choice) → [] ≡ before ++ c ∷ e → ⊥
not_nothing before c e h = nothing_after before c e h

-- runs
pub in_front : (x : List Choice) (a b : List (List Choice)) → Member x a → Member x (a ++ b)
in_front x [] b h = absurd h
in_front x (y ∷ a) b h = elim h [ inl e ↦ inl e | inr g ↦ inr (in_front x a b g) ]

pub in_back : (x : List Choice) (a b : List (List Choice)) → Member x b → Member x (a ++ b)
in_back x [] b h = h
in_back x (y ∷ a) b h = inr (in_back x a b h)

pub in_either : (x : List Choice) (a b : List (List Choice)) → Member x (a ++ b) → Member x a ⊎ Member x b
in_either x [] b h = inr h
in_either x (y ∷ a) b h = elim h [ inl e ↦ inl (inl e) | inr g ↦ elim (in_either x a b g) [ inl i ↦ inl (inr i) | inr i ↦ inr i ] ]

-- parts
abbrev pub bases : List Part → List (List Choice)
bases parts = map (λ (q : Part). q.base) parts

pub in_base : (q : Part) (parts : List Part) → IsIn q parts → Member q.base (bases parts)
in_base q [] h = h
in_base q (x ∷ parts) h = elim h [ inl e ↦ inl (ap (λ (y : Part). y.base) e) | inr g ↦ inr (in_base q parts g) ]

pub base_in : (b : List Choice) (parts : List Part) → Member b (bases parts) → (q : Part) × IsIn q parts × (b ≡ q.base)
base_in b [] h = absurd h
base_in b (x ∷ parts) h = elim h [ inl e ↦ (x, inl refl, e) | inr g ↦ let z = base_in b parts g in (z.0, inr z.1, z.2) ]

pub turned : (x q : Part) (front back : List Part) → IsIn x (q ∷ front ++ back) → IsIn x (front ++ q ∷ back)
turned x q [] back h = h
turned x q (f ∷ front) back h = elim h [
  | inl e ↦ inr (turned x q front back (inl e))
  | inr g ↦ elim g [ inl e ↦ inl e | inr i ↦ inr (turned x q front back (inr i)) ]
]

pub turned_back : (x q : Part) (front back : List Part) → IsIn x (front ++ q ∷ back) → IsIn x (q ∷ front ++ back)
turned_back x q [] back h = h
turned_back x q (f ∷ front) back h = elim h [
  | inl e ↦ inr (inl e)
  | inr g ↦ elim (turned_back x q front back g) [ inl e ↦ inl e | inr i ↦ inr (inr i) ]
]

base_turned : (b : List Choice) (q : Part) (front back : List Part) → Member b (bases (q ∷ front ++ back)) → Member b (bases (front ++ q ∷ back))
base_turned b q [] back h = h
base_turned b q (f ∷ front) back h = elim h [
  | inl e ↦ inr (base_turned b q front back (inl e))
  | inr g ↦ elim g [ inl e ↦ inl e | inr i ↦ inr (base_turned b q front back (inr i)) ]
]

pub once_turned : (q : Part) (front back : List Part) → IsOnce (bases (front ++ q ∷ back)) → IsOnce (bases (q ∷ front ++ back))
once_turned q [] back h = h
once_turned q (f ∷ front) back h =
    let ih = once_turned q front back h.1 in (
      (λ g. elim g [ inl e ↦ h.0 (base_turned f.base q front back (inl (sym e))) | inr i ↦ ih.0 i ]),
      ((λ g. h.0 (base_turned f.base q front back (inr g))), ih.1),
    )
