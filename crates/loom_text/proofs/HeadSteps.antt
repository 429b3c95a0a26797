-- The steps in which a test's parts are read.
use Rattle.std.proofs.Common.{◌≡◌, ℕ, suc, ◌-◌, ◌+◌, ◌≤◌, ◌<◌, map, List, [], ◌∷◌, ◌++◌, Bool, true, false, Option, Some, None, Result, Ok, Err, nat_eq, cond, refl, sym, ap, ◌∙◌, arith}
use Rattle.std.proofs.lemmas.Option.{none-some}
use Rattle.std.specs.List.{list_any}
use Rattle.loom_text.specs.declared.read.stop.Stop.{Stop}
use Rattle.loom_text.specs.declared.read.stop.Stop.TheVariants as stops
use Rattle.loom_text.specs.declared.read.symbol.Symbol.TheVariants as signs
use Rattle.loom_text.specs.declared.test.Kind.{Kind}
use Rattle.loom_text.specs.declared.test.Thread.{Thread}
use Rattle.loom_text.specs.Heads.{Passing, Placed, Strand, initial_part_at, initial_parts_at, is_thread_name, names_of, numbered_thread_at, parameter_at, parameters_at, placed_as, strand, threads_at, threads_end}
use Rattle.loom_text.specs.Known.{Names, location_in, registers_of}
use Rattle.loom_text.specs.Statements.{kind_at}
use Rattle.loom_text.specs.Tokens.{Gives, Left, Stops, ◌>>=◌, after_sign, is_next, name_at, next, passed}

-- ---- values up to a brace

module _ (count i : ℕ) (old : Placed) (from : Left) (total : Option (Placed × Left)) (so_far : initial_parts_at (count - i) old from ≡ total) where
  pub over : count ≤ i → total ≡ None
  unfolding initial_parts_at
  over le =
      let k : count - i ≡ 0 = omega (arith, le) in
      sym so_far ∙ ap (λ (n : ℕ). initial_parts_at n old from) k

  module _ (lt : i < count) where
    begun : total ≡ cond (is_next signs.CloseBrace from) (Some (old, passed from)) (initial_part_at old from >>= λ read. initial_parts_at (count - (i + 1)) read.0 read.1)
    unfolding initial_parts_at
    begun =
        let k : count - i ≡ suc (count - (i + 1)) = omega (arith, lt) in
        sym so_far ∙ ap (λ (n : ℕ). initial_parts_at n old from) k

    pub brace : is_next signs.CloseBrace from ≡ true → total ≡ Some (old, passed from)
    brace h = begun ∙ ap (λ (b : Bool). cond b (Some (old, passed from)) (initial_part_at old from >>= λ read. initial_parts_at (count - (i + 1)) read.0 read.1)) h

    module _ (no_brace : is_next signs.CloseBrace from ≡ false) where
      goes_on : total ≡ (initial_part_at old from >>= λ read. initial_parts_at (count - (i + 1)) read.0 read.1)
      goes_on = begun ∙ ap (λ (b : Bool). cond b (Some (old, passed from)) (initial_part_at old from >>= λ read. initial_parts_at (count - (i + 1)) read.0 read.1)) no_brace

      pub another : (new : Placed) (behind : Left) → initial_part_at old from ≡ Some (new, behind) → initial_parts_at (count - (i + 1)) new behind ≡ total
      another new behind h = sym (goes_on ∙ ap (λ (o : Option (Placed × Left)). o >>= λ read. initial_parts_at (count - (i + 1)) read.0 read.1) h)

      pub no_part : (e : Stop) → Stops e (initial_part_at old from) → Stops e total
      no_part stops.Memory h = tt
      no_part (stops.At problem start end) h = goes_on ∙ ap (λ (o : Option (Placed × Left)). o >>= λ read. initial_parts_at (count - (i + 1)) read.0 read.1) h

-- ---- parameters with commas between them

module _ (count i : ℕ) (old : Passing) (from : Left) (total : Option (Passing × Left)) (so_far : parameters_at (count - i) old from ≡ total) where
  pub no_tokens : count ≤ i → total ≡ None
  unfolding parameters_at
  no_tokens le =
      let k : count - i ≡ 0 = omega (arith, le) in
      sym so_far ∙ ap (λ (n : ℕ). parameters_at n old from) k

  abbrev further : ℕ → Passing × Left → Option (Passing × Left)
  further n read = cond (is_next signs.Comma read.1) (parameters_at n read.0 (passed read.1)) (after_sign signs.CloseParenthesis read.1 >>= λ left. Some (read.0, left))

  module _ (lt : i < count) where
    passes : total ≡ (parameter_at old from >>= λ read. further (count - (i + 1)) read)
    unfolding parameters_at
    passes =
        let k : count - i ≡ suc (count - (i + 1)) = omega (arith, lt) in
        sym so_far ∙ ap (λ (n : ℕ). parameters_at n old from) k

    pub not_passed : (e : Stop) → Stops e (parameter_at old from) → Stops e total
    not_passed stops.Memory h = tt
    not_passed (stops.At problem start end) h = passes ∙ ap (λ (o : Option (Passing × Left)). o >>= λ read. further (count - (i + 1)) read) h

    module _ (new : Passing) (behind : Left) (read : parameter_at old from ≡ Some (new, behind)) where
      found : total ≡ further (count - (i + 1)) (new, behind)
      found = passes ∙ ap (λ (o : Option (Passing × Left)). o >>= λ read. further (count - (i + 1)) read) read

      pub one_more : is_next signs.Comma behind ≡ true → parameters_at (count - (i + 1)) new (passed behind) ≡ total
      one_more h = sym (found ∙ ap (λ (b : Bool). cond b (parameters_at (count - (i + 1)) new (passed behind)) (after_sign signs.CloseParenthesis behind >>= λ left. Some (new, left))) h)

      last : is_next signs.Comma behind ≡ false → total ≡ (after_sign signs.CloseParenthesis behind >>= λ left. Some (new, left))
      last h = found ∙ ap (λ (b : Bool). cond b (parameters_at (count - (i + 1)) new (passed behind)) (after_sign signs.CloseParenthesis behind >>= λ left. Some (new, left))) h

      module _ (no_comma : is_next signs.Comma behind ≡ false) (middle : Left) (there : middle ≡ behind) where
        ends : total ≡ (after_sign signs.CloseParenthesis middle >>= λ left. Some (new, left))
        ends = last no_comma ∙ ap (λ (l : Left). after_sign signs.CloseParenthesis l >>= λ left. Some (new, left)) (sym there)

        pub not_ended : (e : Stop) → Stops e (after_sign signs.CloseParenthesis middle) → Stops e total
        not_ended stops.Memory h = tt
        not_ended (stops.At problem start end) h = ends ∙ ap (λ (o : Option Left). o >>= λ left. Some (new, left)) h

        pub ended : (left : Left) → after_sign signs.CloseParenthesis middle ≡ Some left → total ≡ Some (new, left)
        ended left h = ends ∙ ap (λ (o : Option Left). o >>= λ left. Some (new, left)) h

        pub ended_so : {X : Type 0} (result : Result X Stop) (left : Left) → Gives (λ x. left) result (after_sign signs.CloseParenthesis middle) → Gives (λ x. (new, left)) result total
        ended_so (Ok x) left h = ended left h
        ended_so (Err e) left h = not_ended e h

-- ---- a parameter

pub parameter_as : (numbers : List ℕ) (p q : Placed) (left l1 l2 l3 : Left) (kind : Kind) (name : List ℕ) (n : ℕ) → kind_at left ≡ Some (Some kind, l1) → after_sign signs.Star l1 ≡ Some l2 → is_next signs.Star l2 ≡ false
    → name_at l2 ≡ Some (name, l3) → is_next signs.OpenBracket l3 ≡ false → placed_as name kind (location_in p.locations name) p ≡ Some (n, q)
    → parameter_at (numbers, p) left ≡ cond (list_any (λ number. nat_eq number n) numbers) None (Some ((numbers ++ n ∷ [], q), l3))
unfolding parameter_at
parameter_as numbers p q left l1 l2 l3 kind name n kind_read star one_star named no_bracket there = rw (kind_read, star, one_star, named, no_bracket, there) refl

-- ---- threads, one after another

pub one_strand_more : (threads : List Thread) (thread : Thread) → map strand (threads ++ thread ∷ []) ≡ map strand threads ++ strand thread ∷ []
one_strand_more [] thread = refl
one_strand_more (first ∷ threads) thread = ap (λ (ss : List Strand). strand first ∷ ss) (one_strand_more threads thread)

pub names_alike : (threads : List Thread) → names_of (map strand threads) ≡ map registers_of threads
names_alike [] = refl
names_alike (thread ∷ threads) = ap (λ (ns : List Names). registers_of thread ∷ ns) (names_alike threads)

module _ (i : ℕ) (strands : List Strand) (old : Placed) (from : Left) (total : Option (List Strand × Placed × Left)) (so_far : threads_at (4 - i) i strands old from ≡ total) where
  abbrev threads_behind : Strand × Placed × Left → Option (List Strand × Placed × Left)
  threads_behind read = threads_at (4 - (i + 1)) (i + 1) (strands ++ read.0 ∷ []) read.1 read.2

  all_read : 4 ≤ i → total ≡ cond (is_thread_name (next from)) None (Some (strands, old, from))
  unfolding threads_at
  all_read le =
      let k : 4 - i ≡ 0 = omega (arith, le) in
      sym so_far ∙ ap (λ (n : ℕ). threads_at n i strands old from) k

  abbrev here_all : Option (List Strand × Placed × Left)
  here_all = Some (strands, old, from)

  pub too_many : (e : Stop) → 4 ≤ i → Stops e (cond (is_thread_name (next from)) None (Some from)) → Stops e total
  too_many stops.Memory le h = tt
  too_many (stops.At problem start end) le h = all_read le ∙ named (is_thread_name (next from)) h
    where
      named : (b : Bool) → cond b None (Some from) ≡ None → cond b None here_all ≡ None
      named true h = refl
      named false h = absurd (none-some from (sym h))

  pub all_there : 4 ≤ i → cond (is_thread_name (next from)) None (Some from) ≡ Some from → total ≡ Some (strands, old, from)
  all_there le h = all_read le ∙ unnamed (is_thread_name (next from)) h
    where
      unnamed : (b : Bool) → cond b None (Some from) ≡ Some from → cond b None here_all ≡ here_all
      unnamed true h = absurd (none-some from h)
      unnamed false h = refl

  module _ (lt : i < 4) where
    one_of_more : total ≡ cond (threads_end i from) (Some (strands, old, from)) (numbered_thread_at i old from >>= λ read. threads_behind read)
    unfolding threads_at
    one_of_more =
        let k : 4 - i ≡ suc (4 - (i + 1)) = omega (arith, lt) in
        sym so_far ∙ ap (λ (n : ℕ). threads_at n i strands old from) k

    pub no_thread_more : threads_end i from ≡ true → total ≡ Some (strands, old, from)
    no_thread_more h = one_of_more ∙ ap (λ (b : Bool). cond b (Some (strands, old, from)) (numbered_thread_at i old from >>= λ read. threads_behind read)) h

    module _ (more : threads_end i from ≡ false) where
      goes_on_with : total ≡ (numbered_thread_at i old from >>= λ read. threads_behind read)
      goes_on_with = one_of_more ∙ ap (λ (b : Bool). cond b (Some (strands, old, from)) (numbered_thread_at i old from >>= λ read. threads_behind read)) more

      pub no_thread : (e : Stop) → Stops e (numbered_thread_at i old from) → Stops e total
      no_thread stops.Memory h = tt
      no_thread (stops.At problem start end) h = goes_on_with ∙ ap (λ (o : Option (Strand × Placed × Left)). o >>= λ read. threads_behind read) h

      pub another_thread : (one : Strand) (new : Placed) (left : Left) → numbered_thread_at i old from ≡ Some (one, new, left) → threads_at (4 - (i + 1)) (i + 1) (strands ++ one ∷ []) new left ≡ total
      another_thread one new left h = sym (goes_on_with ∙ ap (λ (o : Option (Strand × Placed × Left)). o >>= λ read. threads_behind read) h)
