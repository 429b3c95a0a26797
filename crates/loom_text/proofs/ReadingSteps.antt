-- The steps in which a condition is read.
use Rattle.std.proofs.Common.{◌≡◌, ℕ, zero, suc, ◌-◌, ◌+◌, ◌≤◌, ◌<◌, List, Bool, true, false, Option, Some, None, cond, refl, sym, ap, ◌∙◌, arith}
use Rattle.loom_text.specs.declared.read.stop.Stop.{Stop}
use Rattle.loom_text.specs.declared.read.stop.Stop.TheVariants as stops
use Rattle.loom_text.specs.declared.read.symbol.Symbol.{Symbol}
use Rattle.loom_text.specs.declared.read.symbol.Symbol.TheVariants as signs
use Rattle.loom_text.specs.Known.{Located, Names}
use Rattle.loom_text.specs.Conditions.{Formula, Denied, comparison_at, disjunction_of, joined_at, part_at}
use Rattle.loom_text.specs.Tokens.{Left, Stops, ◌>>=◌, after_sign, is_next, passed}

-- ---- parts with a sign between them

pub no_more : (sign : Symbol) (join : Formula → Formula → Formula) (part : Left → Option (Formula × Left)) (n m : ℕ) (f : Formula) (behind : Left) → n ≡ suc m → is_next sign behind ≡ false
    → joined_at sign join part n f behind ≡ Some (f, behind)
unfolding joined_at
no_more sign join part n m f behind k h =
    ap (λ (n : ℕ). joined_at sign join part n f behind) k
    ∙ ap (λ (b : Bool). cond b (part (passed behind) >>= λ more. joined_at sign join part m (join f more.0) more.1) (Some (f, behind))) h

pub one_more : (sign : Symbol) (join : Formula → Formula → Formula) (part : Left → Option (Formula × Left)) (n m : ℕ) (f g : Formula) (left behind : Left) → n ≡ suc m → is_next sign left ≡ true
    → part (passed left) ≡ Some (g, behind) → joined_at sign join part n f left ≡ joined_at sign join part m (join f g) behind
unfolding joined_at
one_more sign join part n m f g left behind k h p =
    ap (λ (n : ℕ). joined_at sign join part n f left) k
    ∙ ap (λ (b : Bool). cond b (part (passed left) >>= λ more. joined_at sign join part m (join f more.0) more.1) (Some (f, left))) h
    ∙ ap (λ (o : Option (Formula × Left)). o >>= λ more. joined_at sign join part m (join f more.0) more.1) p

none_more : (sign : Symbol) (join : Formula → Formula → Formula) (part : Left → Option (Formula × Left)) (n m : ℕ) (f : Formula) (left : Left) → n ≡ suc m → is_next sign left ≡ true
    → part (passed left) ≡ None → joined_at sign join part n f left ≡ None
unfolding joined_at
none_more sign join part n m f left k h p =
    ap (λ (n : ℕ). joined_at sign join part n f left) k
    ∙ ap (λ (b : Bool). cond b (part (passed left) >>= λ more. joined_at sign join part m (join f more.0) more.1) (Some (f, left))) h
    ∙ ap (λ (o : Option (Formula × Left)). o >>= λ more. joined_at sign join part m (join f more.0) more.1) p

-- another part
pub goes_on : (sign : Symbol) (join : Formula → Formula → Formula) (part : Left → Option (Formula × Left)) (count i : ℕ) (read more : Formula) (left behind : Left) (total : Option (Formula × Left))
    → i < count → is_next sign left ≡ true → part (passed left) ≡ Some (more, behind)
    → joined_at sign join part (count - i) read left ≡ total → joined_at sign join part (count - (i + 1)) (join read more) behind ≡ total
goes_on sign join part count i read more left behind total lt found h so_far =
    let k : count - i ≡ suc (count - (i + 1)) = omega (arith, lt) in
    sym (one_more sign join part (count - i) (count - (i + 1)) read more left behind k found h) ∙ so_far

-- a part that isn't read
pub stopped : (e : Stop) (sign : Symbol) (join : Formula → Formula → Formula) (part : Left → Option (Formula × Left)) (count i : ℕ) (read : Formula) (left : Left) (total : Option (Formula × Left))
    → i < count → is_next sign left ≡ true → Stops e (part (passed left))
    → joined_at sign join part (count - i) read left ≡ total → Stops e total
stopped stops.Memory sign join part count i read left total lt found h so_far = tt
stopped (stops.At problem start end) sign join part count i read left total lt found h so_far =
    let k : count - i ≡ suc (count - (i + 1)) = omega (arith, lt) in
    sym so_far ∙ none_more sign join part (count - i) (count - (i + 1)) read left k found h

-- no further part
pub ends : (sign : Symbol) (join : Formula → Formula → Formula) (part : Left → Option (Formula × Left)) (count i : ℕ) (read : Formula) (left : Left) (total : Option (Formula × Left))
    → i < count → is_next sign left ≡ false
    → joined_at sign join part (count - i) read left ≡ total → total ≡ Some (read, left)
ends sign join part count i read left total lt found so_far =
    let k : count - i ≡ suc (count - (i + 1)) = omega (arith, lt) in
    sym so_far ∙ no_more sign join part (count - i) (count - (i + 1)) read left k found

-- more parts than are read
pub too_many : (sign : Symbol) (join : Formula → Formula → Formula) (part : Left → Option (Formula × Left)) (count i : ℕ) (read : Formula) (left : Left) (total : Option (Formula × Left))
    → count ≤ i → joined_at sign join part (count - i) read left ≡ total → total ≡ None
unfolding joined_at
too_many sign join part count i read left total le so_far =
    let k : count - i ≡ 0 = omega (arith, le) in
    sym so_far ∙ ap (λ (n : ℕ). joined_at sign join part n read left) k

-- ---- a part of a condition

pub denied : (locations : List Located) (threads : List Names) (inside depth : ℕ) (left : Left) → inside + 1 ≡ depth → is_next signs.Tilde left ≡ true
    → part_at locations threads depth left ≡ (part_at locations threads inside (passed left) >>= λ read. Some (Denied read.0, read.1))
unfolding part_at
denied locations threads inside depth left e h =
    let k : depth ≡ suc inside = omega (arith, e) in
    ap (λ (n : ℕ). part_at locations threads n left) k
    ∙ ap (λ (b : Bool). cond b (part_at locations threads inside (passed left) >>= λ read. Some (Denied read.0, read.1))
    (cond (is_next signs.OpenParenthesis left)
    (disjunction_of (part_at locations threads inside) (passed left) >>= λ read. after_sign signs.CloseParenthesis read.1 >>= λ left. Some (read.0, left))
    (comparison_at locations threads left))) h

pub enclosed : (locations : List Located) (threads : List Names) (inside depth : ℕ) (left : Left) → inside + 1 ≡ depth → is_next signs.Tilde left ≡ false → is_next signs.OpenParenthesis left ≡ true
    → part_at locations threads depth left ≡ (disjunction_of (part_at locations threads inside) (passed left) >>= λ read. after_sign signs.CloseParenthesis read.1 >>= λ left. Some (read.0, left))
unfolding part_at
enclosed locations threads inside depth left e h i =
    let k : depth ≡ suc inside = omega (arith, e) in
    ap (λ (n : ℕ). part_at locations threads n left) k
    ∙ ap (λ (b : Bool). cond b (part_at locations threads inside (passed left) >>= λ read. Some (Denied read.0, read.1))
    (cond (is_next signs.OpenParenthesis left)
    (disjunction_of (part_at locations threads inside) (passed left) >>= λ read. after_sign signs.CloseParenthesis read.1 >>= λ left. Some (read.0, left))
    (comparison_at locations threads left))) h
    ∙ ap (λ (b : Bool). cond b
    (disjunction_of (part_at locations threads inside) (passed left) >>= λ read. after_sign signs.CloseParenthesis read.1 >>= λ left. Some (read.0, left))
    (comparison_at locations threads left)) i

pub too_deep : (locations : List Located) (threads : List Names) (depth : ℕ) (left : Left) → depth ≡ 0 → is_next signs.Tilde left ≡ true → part_at locations threads depth left ≡ None
unfolding part_at
too_deep locations threads depth left e h =
    ap (λ (n : ℕ). part_at locations threads n left) e
    ∙ ap (λ (b : Bool). cond b None (cond (is_next signs.OpenParenthesis left) None (comparison_at locations threads left))) h

pub enclosed_too_deep : (locations : List Located) (threads : List Names) (depth : ℕ) (left : Left) → depth ≡ 0 → is_next signs.Tilde left ≡ false → is_next signs.OpenParenthesis left ≡ true
    → part_at locations threads depth left ≡ None
unfolding part_at
enclosed_too_deep locations threads depth left e h i =
    ap (λ (n : ℕ). part_at locations threads n left) e
    ∙ ap (λ (b : Bool). cond b None (cond (is_next signs.OpenParenthesis left) None (comparison_at locations threads left))) h
    ∙ ap (λ (b : Bool). cond b None (comparison_at locations threads left)) i

pub compared : (locations : List Located) (threads : List Names) (depth : ℕ) (left : Left) → is_next signs.Tilde left ≡ false → is_next signs.OpenParenthesis left ≡ false
    → part_at locations threads depth left ≡ comparison_at locations threads left
unfolding part_at
compared locations threads zero left h i =
    ap (λ (b : Bool). cond b None (cond (is_next signs.OpenParenthesis left) None (comparison_at locations threads left))) h
    ∙ ap (λ (b : Bool). cond b None (comparison_at locations threads left)) i
compared locations threads (suc depth) left h i =
    ap (λ (b : Bool). cond b (part_at locations threads depth (passed left) >>= λ read. Some (Denied read.0, read.1))
    (cond (is_next signs.OpenParenthesis left)
    (disjunction_of (part_at locations threads depth) (passed left) >>= λ read. after_sign signs.CloseParenthesis read.1 >>= λ left. Some (read.0, left))
    (comparison_at locations threads left))) h
    ∙ ap (λ (b : Bool). cond b
    (disjunction_of (part_at locations threads depth) (passed left) >>= λ read. after_sign signs.CloseParenthesis read.1 >>= λ left. Some (read.0, left))
    (comparison_at locations threads left)) i

-- ---- what a function returns where it stops

pub stops_none : {Y : Type 0} (e : Stop) (read : Option Y) → read ≡ None → Stops e read
stops_none (stops.At problem start end) read h = h
stops_none stops.Memory read h = tt

pub then_some : {X Y : Type 0} (o : Option X) (f : X → Option Y) (x : X) (y : Y) → o ≡ Some x → f x ≡ Some y → (o >>= f) ≡ Some y
then_some o f x y h k = ap (λ (o : Option _). o >>= f) h ∙ k

-- ---- a sign that may be next

pub eaten : (found : Bool) (symbol : Symbol) (old new : Left) → found ≡ is_next symbol old → new ≡ cond found (passed old) old → found ≡ true → (is_next symbol old ≡ true) × (new ≡ passed old)
eaten found symbol old new is moved h = (sym is ∙ h, moved ∙ ap (λ (b : Bool). cond b (passed old) old) h)

pub not_eaten : (found : Bool) (symbol : Symbol) (old new : Left) → found ≡ is_next symbol old → new ≡ cond found (passed old) old → found ≡ false → (is_next symbol old ≡ false) × (new ≡ old)
not_eaten found symbol old new is moved h = (sym is ∙ h, moved ∙ ap (λ (b : Bool). cond b (passed old) old) h)

-- behind another that isn't
pub eaten_behind : (found : Bool) (symbol : Symbol) (old middle new : Left) → middle ≡ old → found ≡ is_next symbol middle → new ≡ cond found (passed middle) middle → found ≡ true
    → (is_next symbol old ≡ true) × (new ≡ passed old)
eaten_behind found symbol old middle new e is moved h =
    let x = eaten found symbol middle new is moved h in
    (ap (λ (l : Left). is_next symbol l) (sym e) ∙ x.0, x.1 ∙ ap passed e)

-- ---- parts that are read, and parts that aren't

pub denied_as : (locations : List Located) (threads : List Names) (inside depth : ℕ) (left behind : Left) (f : Formula) → inside + 1 ≡ depth → is_next signs.Tilde left ≡ true
    → part_at locations threads inside (passed left) ≡ Some (f, behind) → part_at locations threads depth left ≡ Some (Denied f, behind)
denied_as locations threads inside depth left behind f e h read =
    denied locations threads inside depth left e h
    ∙ then_some (part_at locations threads inside (passed left)) (λ (read : Formula × Left). Some (Denied read.0, read.1)) (f, behind) (Denied f, behind) read refl

pub not_denied : (e : Stop) (locations : List Located) (threads : List Names) (inside depth : ℕ) (left : Left) → inside + 1 ≡ depth → is_next signs.Tilde left ≡ true
    → Stops e (part_at locations threads inside (passed left)) → Stops e (part_at locations threads depth left)
not_denied stops.Memory locations threads inside depth left k h read = tt
not_denied (stops.At problem start end) locations threads inside depth left k h read =
    denied locations threads inside depth left k h ∙ ap (λ (o : Option (Formula × Left)). o >>= λ read. Some (Denied read.0, read.1)) read

-- what is in parentheses, and the parenthesis behind it
abbrev closed : Option (Formula × Left) → Option (Formula × Left)
closed read = read >>= λ read. after_sign signs.CloseParenthesis read.1 >>= λ left. Some (read.0, left)

pub enclosed_as : (locations : List Located) (threads : List Names) (inside depth : ℕ) (left middle behind : Left) (f : Formula) → inside + 1 ≡ depth → is_next signs.Tilde left ≡ false
    → is_next signs.OpenParenthesis left ≡ true → disjunction_of (part_at locations threads inside) (passed left) ≡ Some (f, middle) → after_sign signs.CloseParenthesis middle ≡ Some behind
    → part_at locations threads depth left ≡ Some (f, behind)
enclosed_as locations threads inside depth left middle behind f e h i read last =
    enclosed locations threads inside depth left e h i ∙ ap closed read ∙ ap (λ (o : Option Left). o >>= λ left. Some (f, left)) last

pub not_enclosed : (e : Stop) (locations : List Located) (threads : List Names) (inside depth : ℕ) (left : Left) → inside + 1 ≡ depth → is_next signs.Tilde left ≡ false
    → is_next signs.OpenParenthesis left ≡ true → Stops e (disjunction_of (part_at locations threads inside) (passed left)) → Stops e (part_at locations threads depth left)
not_enclosed stops.Memory locations threads inside depth left k h i read = tt
not_enclosed (stops.At problem start end) locations threads inside depth left k h i read = enclosed locations threads inside depth left k h i ∙ ap closed read

pub not_closed : (e : Stop) (locations : List Located) (threads : List Names) (inside depth : ℕ) (left middle : Left) (f : Formula) → inside + 1 ≡ depth → is_next signs.Tilde left ≡ false
    → is_next signs.OpenParenthesis left ≡ true → disjunction_of (part_at locations threads inside) (passed left) ≡ Some (f, middle) → Stops e (after_sign signs.CloseParenthesis middle)
    → Stops e (part_at locations threads depth left)
not_closed stops.Memory locations threads inside depth left middle f k h i read last = tt
not_closed (stops.At problem start end) locations threads inside depth left middle f k h i read last =
    enclosed locations threads inside depth left k h i ∙ ap closed read ∙ ap (λ (o : Option Left). o >>= λ left. Some (f, left)) last
