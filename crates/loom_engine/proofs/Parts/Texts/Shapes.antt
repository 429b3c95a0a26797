-- The objects of parts: what is read was written.
use Rattle.std.proofs.Common.{◌≡◌, ◌≢◌, ℕ, Bool, if◌then◌else◌, codes, List, Option, Some, None, refl, sym, ap, ◌∙◌}
use Rattle.serde_json.specs.Data.{Data, boolean, string, object, Members, member}
use Rattle.serde_json.specs.Find.{as_bool, as_str, as_object}
use Rattle.loom_engine.specs.Checkpoint.Accepted.{version_of}
use Rattle.loom_engine.specs.Checkpoint.Grammar.{whole, list_data}
use Rattle.loom_engine.specs.Checkpoint.Reader.{as_whole, as_list, ends, taken}
use Rattle.loom_engine.specs.Parts.Texts.Grammar.{item_shape, part_shape, list_shape}
use Rattle.loom_engine.specs.Parts.Texts.Reader.{as_it_is, format_of, Item, item_of, Single, single_of, Listed, listed_of}
use Rattle.loom_engine.proofs.Checkpoint.Lists.{list_of-items_of}
use Rattle.loom_engine.proofs.Checkpoint.Chains.{with_step, test_passed}
use Rattle.loom_engine.proofs.Checkpoint.Inverse.{with_taken, as_bool-gave, as_whole-gave, as_str-gave, as_list-gave, as_object-gave, ends-gave}

some_same : {A : Type 0} (p q : A) → Some p ≡ Some q → p ≡ q
some_same p q e = cc

none_some : {A : Type 0} (o : Option A) (p : A) → o ≡ None → o ≡ Some p → ⊥
none_some o p e f = cc

as_it_is-gave : (d e : Data) → as_it_is d ≡ Some e → d ≡ e
as_it_is-gave d e h = some_same d e h

-- ---- a part, as a list has it

abbrev pub item : Bool → ℕ → Data → ℕ → Item
item done floor path runs = record { done = done; floor = floor; path = path; runs = runs }

pub item_of-of : (b : Bool) (n : ℕ) (path : Data) (r : ℕ) → item_of (item_shape b n path r) ≡ Some (item b n path r)
unfolding item_of item_shape taken
item_of-of b n path r = refl

item_is : (d : Data) (ms m1 m2 m3 m4 : Members) (b : Bool) (n : ℕ) (path : Data) (r : ℕ) (p : Item) → d ≡ object ms → ms ≡ member (codes "done") (boolean b) m1
    → m1 ≡ member (codes "floor") (whole n) m2 → m2 ≡ member (codes "path") path m3 → m3 ≡ member (codes "runs") (whole r) m4
    → (if ends m4 then Some (item b n path r) else None) ≡ Some p → d ≡ item_shape p.done p.floor p.path p.runs
unfolding item_shape
item_is d ms m1 m2 m3 m4 b n path r p is0 is1 is2 is3 is4 passed =
    let t = test_passed _ (item b n path r) p passed in
    let all : d ≡ item_shape b n path r = rw (is0, is1, is2, is3, is4, ends-gave m4 t.0) refl in
    all ∙ ap (λ q. item_shape q.done q.floor q.path q.runs) t.1

pub item_of-gave : (d : Data) (p : Item) → item_of d ≡ Some p → d ≡ item_shape p.done p.floor p.path p.runs
unfolding item_of
item_of-gave d p e =
    with_step (as_object d) _ p e (λ ms is e0.
    with_taken as_bool boolean as_bool-gave (codes "done") ms _ p e0 (λ b m1 is1 e1.
    with_taken as_whole whole as_whole-gave (codes "floor") m1 _ p e1 (λ n m2 is2 e2.
    with_taken as_it_is (λ x. x) as_it_is-gave (codes "path") m2 _ p e2 (λ path m3 is3 e3.
    with_taken as_whole whole as_whole-gave (codes "runs") m3 _ p e3 (λ r m4 is4 e4.
    item_is d ms m1 m2 m3 m4 b n path r p (as_object-gave d ms is) is1 is2 is3 is4 e4)))))

pub item-same : (a b : Bool) (n k : ℕ) (x y : Data) (r t : ℕ) → item_shape a n x r ≡ item_shape b k y t → item a n x r ≡ item b k y t
item-same a b n k x y r t e = some_same (item a n x r) (item b k y t) (sym (item_of-of a n x r) ∙ ap item_of e ∙ item_of-of b k y t)

pub no_item : (d : Data) → item_of d ≡ None → (b : Bool) (n : ℕ) (path : Data) (r : ℕ) → d ≢ item_shape b n path r
no_item d e b n path r is = none_some (item_of d) (item b n path r) e (ap item_of is ∙ item_of-of b n path r)

-- ---- a part that is written alone

abbrev pub single : List ℕ → Data → ℕ → Single
single format part version = record { format = format; part = part; version = version }

pub single_of-of : (f : List ℕ) (part : Data) (v : ℕ) → single_of (part_shape f part v) ≡ Some (single f part v)
unfolding single_of part_shape taken
single_of-of f part v = refl

pub part_format : (f : List ℕ) (part : Data) (v : ℕ) → format_of (part_shape f part v) ≡ Some f
unfolding part_shape
part_format f part v = refl

pub part_version : (f : List ℕ) (part : Data) (v : ℕ) → version_of (part_shape f part v) ≡ Some v
unfolding part_shape
part_version f part v = refl

single_is : (d : Data) (ms m1 m2 m3 : Members) (f : List ℕ) (part : Data) (v : ℕ) (p : Single) → d ≡ object ms → ms ≡ member (codes "format") (string f) m1
    → m1 ≡ member (codes "part") part m2 → m2 ≡ member (codes "version") (whole v) m3 → (if ends m3 then Some (single f part v) else None) ≡ Some p → d ≡ part_shape p.format p.part p.version
unfolding part_shape
single_is d ms m1 m2 m3 f part v p is0 is1 is2 is3 passed =
    let t = test_passed _ (single f part v) p passed in
    let all : d ≡ part_shape f part v = rw (is0, is1, is2, is3, ends-gave m3 t.0) refl in
    all ∙ ap (λ q. part_shape q.format q.part q.version) t.1

single_of-gave : (d : Data) (p : Single) → single_of d ≡ Some p → d ≡ part_shape p.format p.part p.version
unfolding single_of
single_of-gave d p e =
    with_step (as_object d) _ p e (λ ms is e0.
    with_taken as_str string as_str-gave (codes "format") ms _ p e0 (λ f m1 is1 e1.
    with_taken as_it_is (λ x. x) as_it_is-gave (codes "part") m1 _ p e1 (λ part m2 is2 e2.
    with_taken as_whole whole as_whole-gave (codes "version") m2 _ p e2 (λ v m3 is3 e3.
    single_is d ms m1 m2 m3 f part v p (as_object-gave d ms is) is1 is2 is3 e3))))

pub part-same : (f g : List ℕ) (x y : Data) (v w : ℕ) → part_shape f x v ≡ part_shape g y w → x ≡ y
part-same f g x y v w e = ap (λ p. p.part) (some_same (single f x v) (single g y w) (sym (single_of-of f x v) ∙ ap single_of e ∙ single_of-of g y w))

pub no_single : (d : Data) → single_of d ≡ None → (f : List ℕ) (part : Data) (v : ℕ) → d ≢ part_shape f part v
no_single d e f part v is = none_some (single_of d) (single f part v) e (ap single_of is ∙ single_of-of f part v)

-- a value of which the format and the version were read
pub single_read : (d : Data) (p : Single) (f : List ℕ) (v : ℕ) → single_of d ≡ Some p → format_of d ≡ Some f → version_of d ≡ Some v → d ≡ part_shape f p.part v
single_read d p f v e format version =
    let is = single_of-gave d p e in
    let same_format : p.format ≡ f = some_same p.format f (sym (part_format p.format p.part p.version) ∙ ap format_of (sym is) ∙ format) in
    let same_version : p.version ≡ v = some_same p.version v (sym (part_version p.format p.part p.version) ∙ ap version_of (sym is) ∙ version) in
    is ∙ ap (λ g. part_shape g p.part p.version) same_format ∙ ap (part_shape f p.part) same_version

-- ---- a list of parts

abbrev pub listed : List ℕ → List Data → ℕ → Data → List Data → ℕ → Listed
listed format parts runs search trunk version = record { format = format; parts = parts; runs = runs; search = search; trunk = trunk; version = version }

pub listed_of-of : (f : List ℕ) (xs : List Data) (r : ℕ) (s : Data) (ts : List Data) (v : ℕ) → listed_of (list_shape f xs r s ts v) ≡ Some (listed f xs r s ts v)
unfolding listed_of list_shape taken
listed_of-of f xs r s ts v = rw (list_of-items_of xs, list_of-items_of ts) refl

pub list_format : (f : List ℕ) (xs : List Data) (r : ℕ) (s : Data) (ts : List Data) (v : ℕ) → format_of (list_shape f xs r s ts v) ≡ Some f
unfolding list_shape
list_format f xs r s ts v = refl

pub list_version : (f : List ℕ) (xs : List Data) (r : ℕ) (s : Data) (ts : List Data) (v : ℕ) → version_of (list_shape f xs r s ts v) ≡ Some v
unfolding list_shape
list_version f xs r s ts v = refl

listed_is : (d : Data) (ms m1 m2 m3 m4 m5 m6 : Members) (f : List ℕ) (xs : List Data) (r : ℕ) (s : Data) (ts : List Data) (v : ℕ) (p : Listed) → d ≡ object ms
    → ms ≡ member (codes "format") (string f) m1 → m1 ≡ member (codes "parts") (list_data xs) m2 → m2 ≡ member (codes "runs") (whole r) m3 → m3 ≡ member (codes "search") s m4
    → m4 ≡ member (codes "trunk") (list_data ts) m5 → m5 ≡ member (codes "version") (whole v) m6 → (if ends m6 then Some (listed f xs r s ts v) else None) ≡ Some p
    → d ≡ list_shape p.format p.parts p.runs p.search p.trunk p.version
unfolding list_shape
listed_is d ms m1 m2 m3 m4 m5 m6 f xs r s ts v p is0 is1 is2 is3 is4 is5 is6 passed =
    let t = test_passed _ (listed f xs r s ts v) p passed in
    let all : d ≡ list_shape f xs r s ts v = rw (is0, is1, is2, is3, is4, is5, is6, ends-gave m6 t.0) refl in
    all ∙ ap (λ q. list_shape q.format q.parts q.runs q.search q.trunk q.version) t.1

listed_of-gave : (d : Data) (p : Listed) → listed_of d ≡ Some p → d ≡ list_shape p.format p.parts p.runs p.search p.trunk p.version
unfolding listed_of
listed_of-gave d p e =
    with_step (as_object d) _ p e (λ ms is e0.
    with_taken as_str string as_str-gave (codes "format") ms _ p e0 (λ f m1 is1 e1.
    with_taken as_list list_data as_list-gave (codes "parts") m1 _ p e1 (λ xs m2 is2 e2.
    with_taken as_whole whole as_whole-gave (codes "runs") m2 _ p e2 (λ r m3 is3 e3.
    with_taken as_it_is (λ x. x) as_it_is-gave (codes "search") m3 _ p e3 (λ s m4 is4 e4.
    with_taken as_list list_data as_list-gave (codes "trunk") m4 _ p e4 (λ ts m5 is5 e5.
    with_taken as_whole whole as_whole-gave (codes "version") m5 _ p e5 (λ v m6 is6 e6.
    listed_is d ms m1 m2 m3 m4 m5 m6 f xs r s ts v p (as_object-gave d ms is) is1 is2 is3 is4 is5 is6 e6)))))))

pub list-same : (f g : List ℕ) (xs ys : List Data) (r t : ℕ) (s u : Data) (ts us : List Data) (v w : ℕ) → list_shape f xs r s ts v ≡ list_shape g ys t u us w → listed f xs r s ts v ≡ listed g ys t u us w
list-same f g xs ys r t s u ts us v w e =
    some_same (listed f xs r s ts v) (listed g ys t u us w) (sym (listed_of-of f xs r s ts v) ∙ ap listed_of e ∙ listed_of-of g ys t u us w)

pub no_list : (d : Data) → listed_of d ≡ None → (f : List ℕ) (xs : List Data) (r : ℕ) (s : Data) (ts : List Data) (v : ℕ) → d ≢ list_shape f xs r s ts v
no_list d e f xs r s ts v is = none_some (listed_of d) (listed f xs r s ts v) e (ap listed_of is ∙ listed_of-of f xs r s ts v)

pub listed_read : (d : Data) (p : Listed) (f : List ℕ) (v : ℕ) → listed_of d ≡ Some p → format_of d ≡ Some f → version_of d ≡ Some v → d ≡ list_shape f p.parts p.runs p.search p.trunk v
listed_read d p f v e format version =
    let is = listed_of-gave d p e in
    let same_format : p.format ≡ f = some_same p.format f (sym (list_format p.format p.parts p.runs p.search p.trunk p.version) ∙ ap format_of (sym is) ∙ format) in
    let same_version : p.version ≡ v = some_same p.version v (sym (list_version p.format p.parts p.runs p.search p.trunk p.version) ∙ ap version_of (sym is) ∙ version) in
    is ∙ ap (λ g. list_shape g p.parts p.runs p.search p.trunk p.version) same_format ∙ ap (list_shape f p.parts p.runs p.search p.trunk) same_version
