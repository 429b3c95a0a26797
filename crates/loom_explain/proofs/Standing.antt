-- Marks that stand in a text which goes on.
use Rattle.std.proofs.Common.{ℕ, suc, ◌≡◌, ◌+◌, ◌<◌, ◌≤◌, List, [], ◌∷◌, ◌++◌, length, take, get_or, map, refl, sym, ◌∙◌, ap, subst, arith}
use Rattle.std.proofs.Math.Seq.{take-suc}
use Rattle.std.proofs.lemmas.List.{map-append, take_all}
use Rattle.loom_explain.specs.declared.picture.Form.{Form}
use Rattle.loom_explain.specs.declared.picture.Row.{Row}
use Rattle.loom_explain.specs.Marks.{StandIn, mark_of}
use Rattle.loom_explain.specs.Rows.{GoesOnWith}

assoc : (one other more : List ℕ) → (one ++ other) ++ more ≡ one ++ (other ++ more)
assoc [] other more = refl
assoc (x ∷ one) other more = ap (λ l. x ∷ l) (assoc one other more)

-- what is behind the mark goes on
behind : (before mark after more : List ℕ) → (before ++ (mark ++ after)) ++ more ≡ before ++ (mark ++ (after ++ more))
behind before mark after more = assoc before (mark ++ after) more ∙ ap (λ l. before ++ l) (assoc mark after more)

-- the text goes on
pub stand_more : (marks : List (List ℕ)) (text more : List ℕ) → StandIn marks text → StandIn marks (text ++ more)
stand_more [] text more s = tt
stand_more (mark ∷ marks) text more s =
    (s.0, (s.1.0 ++ more, (ap (λ l. l ++ more) s.1.1.0 ∙ behind s.0 mark s.1.0 more, stand_more marks s.1.0 more s.1.1.1)))

-- it goes on with one mark more
pub stand_last : (marks : List (List ℕ)) (mark text before after : List ℕ) → StandIn marks text → StandIn (marks ++ (mark ∷ [])) (text ++ (before ++ (mark ++ after)))
stand_last [] mark text before after s = (text ++ before, (after, (sym (assoc text before (mark ++ after)), tt)))
stand_last (first ∷ marks) mark text before after s =
    (s.0, (s.1.0 ++ (before ++ (mark ++ after)), (ap (λ l. l ++ (before ++ (mark ++ after))) s.1.1.0 ∙ behind s.0 first s.1.0 (before ++ (mark ++ after)), stand_last marks mark s.1.0 before after s.1.1.1)))

-- the marks of the rows up to one place stand in the text, which goes on with the next one
pub stand_next : (form : Form) (rows : List Row) (place : ℕ) (row : Row) (old new : List ℕ) → place < length rows → row ≡ get_or rows place row → StandIn (map (mark_of form) (take place rows)) old → GoesOnWith (mark_of form row) old new → StandIn (map (mark_of form) (take (place + 1) rows)) new
stand_next form rows place row old new lt is s on =
    let next : take (suc place) rows ≡ take place rows ++ (get_or rows place row ∷ []) = take-suc rows place row lt in
    let one : suc place ≡ place + 1 = omega arith in
    let whole : take (place + 1) rows ≡ take place rows ++ (row ∷ []) =
    subst (λ k. take k rows ≡ take place rows ++ (row ∷ [])) one (subst (λ x. take (suc place) rows ≡ take place rows ++ (x ∷ [])) (sym is) next) in
    let marks : map (mark_of form) (take (place + 1) rows) ≡ map (mark_of form) (take place rows) ++ (mark_of form row ∷ []) =
    ap (λ l. map (mark_of form) l) whole ∙ map-append (mark_of form) (take place rows) (row ∷ []) in
    let stand : StandIn (map (mark_of form) (take place rows) ++ (mark_of form row ∷ [])) (old ++ (on.0 ++ (mark_of form row ++ on.1.0))) =
    stand_last (map (mark_of form) (take place rows)) (mark_of form row) old on.0 on.1.0 s in
    subst (λ l. StandIn l new) (sym marks) (subst (λ t. StandIn (map (mark_of form) (take place rows) ++ (mark_of form row ∷ [])) t) (sym on.1.1) stand)

-- all marks stand in the text, which goes on
pub stand_all : (form : Form) (rows : List Row) (place : ℕ) (old new more : List ℕ) → length rows ≤ place → StandIn (map (mark_of form) (take place rows)) old → new ≡ old ++ more → StandIn (map (mark_of form) rows) new
stand_all form rows place old new more le s e =
    let all : StandIn (map (mark_of form) rows) old = subst (λ l. StandIn (map (mark_of form) l) old) (take_all place rows le) s in
    subst (λ t. StandIn (map (mark_of form) rows) t) (sym e) (stand_more (map (mark_of form) rows) old more all)
