-- Checks without a store, or with a file.
use Rattle.std.proofs.Common.{◌≢◌, ℕ, List, inl, inr, arith, refl, subst, Option, Some, None, Result}
use Rattle.std.specs.Option.{option_map_or}
use Rattle.std.specs.Prelude.{String}
use Rattle.std.specs.declared.alloc.Global.{Global}
use Rattle.std.specs.declared.time.Duration.{Duration}
use Rattle.loom_objects.specs.declared.choice.Choice.{Choice}
use Rattle.loom_engine.specs.declared.rt.path.node.Node.{Node}
use Rattle.loom.specs.declared.model.builder.Builder.{Builder}
use Rattle.loom.specs.declared.model.report.Report.{Report}
use Rattle.loom.specs.declared.model.report.Report.TheVariants as report
use Rattle.loom.specs.declared.runner.stop.Stop.{Stop}
use Rattle.loom.specs.Model.Check.{gives_file}
use Rattle.loom.specs.Model.Stores.{HasRisen}
use Rattle.loom.specs.Runner.Handle.{Teller}
use Rattle.loom.specs.Runner.Check.{Made, IsHeld, Reports, Says}
use Rattle.loom.proofs.ModelLemmas.Errors.{no_count}

-- a file may give anything
pub file_gives : (name : Option (String Global)) → name ≢ None → (P : (Option (List ℕ) → Type 0) → Type 0) → P (λ text. Unit {0}) → P (gives_file name)
file_gives None named P z = absurd (named refl)
file_gives (Some name) named P z = z

-- a store in memory, or none, counts no fault
pub none_risen : {S : Type 0} (store : Option S) → HasRisen 0 (option_map_or {T = S} {U = ℕ} (λ s. 0) store 0) → ⊥
none_risen store risen = go (subst (HasRisen 0) (no_count store) risen)
  where
    go : HasRisen 0 0 → ⊥
    go (inl less) = absurd (omega (arith, less))
    go (inr most) = absurd (omega (arith, most))

module _ {D F V : Type 0} (called : F → Teller D → Result D Stop → F → Teller D → Type 0) (takes : V → List Choice → D → V → Type 0) (b : Builder) where
  -- ---- where nothing is known of what the store holds

  says_unknown : (path : List Node) (holds : Option (List ℕ) → Type 0) (f : F) (v : V) (runs : List (Made D)) (f' : F) (v' : V) (r : Report) → Says called takes b path holds f v runs f' v' r
      → Says called takes b path (λ text. Unit {0}) f v runs f' v' r
  says_unknown path holds f v runs f' v' (report.Complete count) z = z
  says_unknown path holds f v runs f' v' (report.Stopped count limit checkpoint) z = record { last = z.last; given = z.given; reads = z.reads; compact = z.compact; held = tt }
  says_unknown path holds f v runs f' v' (report.Failed count failure choices) z = z

  held_unknown : (path : List Node) (holds : Option (List ℕ) → Type 0) (f : F) (v : V) (runs : List (Made D)) (most : ℕ) → IsHeld called takes b path holds f v runs most
      → IsHeld called takes b path (λ text. Unit {0}) f v runs most
  held_unknown path holds f v runs most z = record {
    text = z.text;
    held = tt;
    last = z.last;
    reads = z.reads;
    behind = z.behind;
    before = z.before;
    splits = z.splits;
    few = z.few;
    closure = z.closure;
    visitor = z.visitor;
    given = z.given;
  }

  pub unkept : (f : F) (v v' : V) (gives holds : Option (List ℕ) → Type 0) (answered : Duration → Type 0) (r : Report) → Reports called takes b f v v' gives holds answered r
      → Reports called takes b f v v' gives (λ text. Unit {0}) answered r
  unkept f v v' gives holds answered r z = record {
    text = z.text;
    gave = z.gave;
    path = z.path;
    reads = z.reads;
    after = z.after;
    runs = z.runs;
    counted = z.counted;
    once = z.once;
    says = says_unknown z.path holds f v z.runs z.after v' r z.says;
    limits = z.limits;
    held = held_unknown z.path holds f v z.runs b.checkpoint_interval z.held;
  }
