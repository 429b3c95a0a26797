-- What a check says that remembers states, by the host's clock, whatever it tells its visitor.
use Rattle.std.proofs.Common.{◌≡◌, ℕ, List, Option, None}
use Rattle.std.specs.Prelude.{IfOk, Result, Ok, Err, ⊤}
use Rattle.loom_objects.specs.declared.choice.Choice.{Choice}
use Rattle.loom_engine.specs.Runs.Body.{Meaning}
use Rattle.loom.specs.Model.Covered.{ClaimsTogether, Covering}
use Rattle.loom.specs.declared.model.builder.Builder.{Builder}
use Rattle.loom.specs.declared.model.cover.Covered.{Covered}
use Rattle.loom.specs.declared.model.cover.Covered.TheVariants.{Complete, Livelock, Stopped, Failed}
use Rattle.loom.proofs.ModelLemmas.CoverRounds.{no_text}
use Rattle.loom_examples.specs.Rows.Tasks.{CoversBody}

module _ {S : Type 0} (b : Builder) (next : Meaning ℕ S) (body : S) (holds : Option (List ℕ) → Type 0) (before given : List (List Choice × ℕ)) where
  -- whatever the store holds
  unheld : (covered : Covered) → ClaimsTogether b next body holds before given covered → ClaimsTogether b next body (λ text. Unit {0}) before given covered
  unheld (Complete count met states) h = h
  unheld (Livelock count met states choices) h = h
  unheld (Stopped count met states limit) h = record { text = h.text; held = tt; last = h.last; reads = h.reads; compact = h.compact; goes_on = h.goes_on }
  unheld (Failed count met states failure choices) h = h

pub covers : {V S E : Type 0} (takes : V → List Choice → ℕ → V → Type 0) (old new : V) (b : Builder) (next : Meaning ℕ S) (body : S) (gives holds : Option (List ℕ) → Type 0) (answer : Result Covered E)
    → IfOk answer (Covering takes old new b next body gives holds (λ time. ⊤)) → (b.checkpoint_file ≡ None → (text : Option (List ℕ)) → gives text → text ≡ None) → IfOk answer (CoversBody b next body)
covers takes old new b next body gives holds (Ok covered) h none = record {
  given = h.given;
  counted = h.was_given.counted;
  path = h.path;
  unfiled = λ e. no_text b h.text h.path (none e h.text h.gave) h.reads;
  fresh = h.fresh;
  together = λ before came. unheld b next body holds before h.given covered (h.together before came);
}
covers takes old new b next body gives holds (Err e) h none = h
