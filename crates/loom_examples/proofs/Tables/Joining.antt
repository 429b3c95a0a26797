-- Tables that are put together.
use Rattle.std.proofs.Common.{ℕ, ◌+◌, ◌<◌, ◌≡◌, List, [], ◌∷◌, ◌++◌, Result, Ok, Err, IfOk, flat_map, get_or, length, map, take, ap, sym, subst, ◌∙◌}
use Rattle.std.proofs.lemmas.List.{flat_map_more, map-append, take_more}
use Rattle.loom_examples.specs.declared.rows.Row.{Row}
use Rattle.loom_examples.specs.Rows.Meanings.{named}
use Rattle.loom_examples.specs.Rows.Table.{IsTable}

-- what the first tables have, with one table more
pub one_more : {Table Item : Type 0} (has : Table → List Item) (tables : List Table) (i : ℕ) (table : Table) (items more : List Item)
    → items ≡ flat_map has (take i tables) → i < length tables → table ≡ get_or tables i table → more ≡ items ++ has table
    → more ≡ flat_map has (take (i + 1) tables)
one_more has tables i table items more before less is put =
    let first = take i tables in
    put
    ∙ ap (λ l. l ++ has table) before
    ∙ flat_map_more has [] first table
    ∙ ap (λ t. flat_map has (first ++ t ∷ [])) is
    ∙ ap (flat_map has) (sym (take_more tables i table less))

-- what two tables mean, one behind the other
pub behind : {Said Meant : Type 0} (means : Said → Meant) (table others : List Said) (one more : List Meant) → map means table ≡ one
    → map means others ≡ more → map means (table ++ others) ≡ one ++ more
behind means table others one more t o =
    map-append means table others ∙ ap (λ rows. rows ++ map means others) t ∙ ap (λ rows. one ++ rows) o

-- the rows of a result are the table, if it has these and they are
pub are_table : {Value Refused : Type 0} (result : Result Value Refused) (items : Value → List Row) (rows : List Row)
    → IfOk result (λ value. items value ≡ rows) → IsTable (map named rows) → IfOk result (λ value. IsTable (map named (items value)))
are_table (Ok value) items rows same table = subst (λ r. IsTable (map named r)) (sym same) table
are_table (Err refused) items rows same table = same
