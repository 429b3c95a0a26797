use Rattle.std.proofs.Common.{refl, map}
use Rattle.serde_json.specs.View.{view}
use Rattle.loom_engine.specs.Path.Route.{settings}
use Rattle.loom_engine.specs.declared.rt.parts.error.PartsError.TheVariants.{WrongShape}
use Rattle.loom_engine.proofs.Parts.Texts.Shapes.{listed}
use Rattle.loom_engine.proofs.Parts.Texts.Listed.{list_read, list_search, list_items, list_keys, list_no_shape, list_header, none_refused}
use Rattle.loom_engine.proofs.rt.parts.Parts.from_value.Goals as goal

pub returns-in-Err-clause-err : goal.returns-in-Err-clause-err
returns-in-Err-clause-err c =
    list_header (settings c.args.search) c.args.search.explores (view c.args.value.now) c.in-Err.error c.in-Err.ensures.err

pub returns-in-Err-clause-exact : goal.returns-in-Err-clause-exact
returns-in-Err-clause-exact c = λ other q h.
    none_refused (settings c.args.search) c.args.search.explores (view c.args.value.now) q h c.in-Err.error (list_header (settings c.args.search) c.args.search.explores (view c.args.value.now) c.in-Err.error c.in-Err.ensures.err) other

pub returns-in-None-clause-err : goal.returns-in-None-clause-err
returns-in-None-clause-err c =
    list_no_shape (settings c.args.search) c.args.search.explores (view c.args.value.now) c.in-None.ensures

pub returns-in-None-clause-exact : goal.returns-in-None-clause-exact
returns-in-None-clause-exact c = λ other q h.
    none_refused (settings c.args.search) c.args.search.explores (view c.args.value.now) q h WrongShape (list_no_shape (settings c.args.search) c.args.search.explores (view c.args.value.now) c.in-None.ensures) other

pub returns-in-Err-test_search-clause-err : goal.returns-in-Err-test_search-clause-err
returns-in-Err-test_search-clause-err c =
    let p = c.in-Some.listed in
    list_search (settings c.args.search) c.args.search.explores (view c.args.value.now) (listed p.format.now (map view p.parts.now.items) p.runs (view p.search.now) (map view p.trunk.now.items) p.version) c.in-Some.ensures c.in_default.ensures.ok c.in-Err-test_search.error c.in-Err-test_search.ensures.err

pub returns-in-Err-test_search-clause-exact : goal.returns-in-Err-test_search-clause-exact
returns-in-Err-test_search-clause-exact c = λ other q h.
    let p = c.in-Some.listed in
    none_refused (settings c.args.search) c.args.search.explores (view c.args.value.now) q h c.in-Err-test_search.error (list_search (settings c.args.search) c.args.search.explores (view c.args.value.now) (listed p.format.now (map view p.parts.now.items) p.runs (view p.search.now) (map view p.trunk.now.items) p.version) c.in-Some.ensures c.in_default.ensures.ok c.in-Err-test_search.error c.in-Err-test_search.ensures.err) other

pub returns-in-Err-read_items-clause-err : goal.returns-in-Err-read_items-clause-err
returns-in-Err-read_items-clause-err c =
    let p = c.in-Some.listed in
    list_items (settings c.args.search) c.args.search.explores (view c.args.value.now) (listed p.format.now (map view p.parts.now.items) p.runs (view p.search.now) (map view p.trunk.now.items) p.version) c.in-Some.ensures c.in_default.ensures.ok c.in-Err-read_items.error c.in-Err-read_items.ensures.err

pub returns-in-Err-read_items-clause-exact : goal.returns-in-Err-read_items-clause-exact
returns-in-Err-read_items-clause-exact c = λ other q h.
    let p = c.in-Some.listed in
    none_refused (settings c.args.search) c.args.search.explores (view c.args.value.now) q h c.in-Err-read_items.error (list_items (settings c.args.search) c.args.search.explores (view c.args.value.now) (listed p.format.now (map view p.parts.now.items) p.runs (view p.search.now) (map view p.trunk.now.items) p.version) c.in-Some.ensures c.in_default.ensures.ok c.in-Err-read_items.error c.in-Err-read_items.ensures.err) other

pub returns-in-Err-read_keys-clause-err : goal.returns-in-Err-read_keys-clause-err
returns-in-Err-read_keys-clause-err c =
    let p = c.in-Some.listed in
    list_keys (settings c.args.search) c.args.search.explores (view c.args.value.now) (listed p.format.now (map view p.parts.now.items) p.runs (view p.search.now) (map view p.trunk.now.items) p.version) c.in-Some.ensures c.in_default.ensures.ok c.in-Err-read_keys.error c.in-Err-read_keys.ensures.err

pub returns-in-Err-read_keys-clause-exact : goal.returns-in-Err-read_keys-clause-exact
returns-in-Err-read_keys-clause-exact c = λ other q h.
    let p = c.in-Some.listed in
    none_refused (settings c.args.search) c.args.search.explores (view c.args.value.now) q h c.in-Err-read_keys.error (list_keys (settings c.args.search) c.args.search.explores (view c.args.value.now) (listed p.format.now (map view p.parts.now.items) p.runs (view p.search.now) (map view p.trunk.now.items) p.version) c.in-Some.ensures c.in_default.ensures.ok c.in-Err-read_keys.error c.in-Err-read_keys.ensures.err) other

pub returns-clause-ok : goal.returns-clause-ok
returns-clause-ok c =
    let p = c.in-Some.listed in
    list_read (settings c.args.search) c.args.search.explores (view c.args.value.now) (listed p.format.now (map view p.parts.now.items) p.runs (view p.search.now) (map view p.trunk.now.items) p.version) c.in-Some.ensures c.in_default.ensures.ok c.args.search refl refl c.in_default-test_search.ensures.ok c.in-Ok.list c.in-Ok.ensures.ok.0 c.in-Ok.ensures.ok.1 c.in-Ok-read_keys.trunk c.in-Ok-read_keys.ensures.ok
