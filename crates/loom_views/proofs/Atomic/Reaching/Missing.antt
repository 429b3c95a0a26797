-- An access of a cell races just where a recorded point hasn't come to the present one.
use Rattle.std.proofs.Common.{◌≡◌, ℕ, List, sym, ◌∙◌, refl, ⊎_elim, inl, inr}
use Rattle.std.proofs.lemmas.Bool.{cases_Bool}
use Rattle.loom_views.specs.Graph.{Graph, inside}
use Rattle.loom_views.specs.Laws.Views.{HasOutside}
use Rattle.loom_views.specs.Laws.Reaching.{UnreachedLaw, HasMissing, is_raising, has_come}
use Rattle.loom_views.proofs.Atomic.Reaching.Raising.{extends-itself, staying_law}
use Rattle.loom_views.proofs.Atomic.TableLaws.Racing.{racing_law}

-- a point has come to another just where its view is inside that one's
pub come-is-inside : (g : Graph) (k a : ℕ) → has_come g k a ≡ inside g k a
come-is-inside g k a = ⊎_elim
    (λ e. let known = staying_law g g k (extends-itself g) e in rw e (sym (known.reaching a)))
    (λ e. rw e refl)
    (cases_Bool (is_raising g k))

missing-outside : (g : Graph) (points : List ℕ) (a : ℕ) → HasMissing g points a → HasOutside g points a
missing-outside g points a h = (h.0, h.1, h.2, h.3, sym (come-is-inside g h.1 a) ∙ h.4)

outside-missing : (g : Graph) (points : List ℕ) (a : ℕ) → HasOutside g points a → HasMissing g points a
outside-missing g points a h = (h.0, h.1, h.2, h.3, come-is-inside g h.1 a ∙ h.4)

pub unreached_law : UnreachedLaw
unreached_law p t n own cell e f =
    let races = racing_law p t n own cell e f in
    record {
      read = (λ h. outside-missing p.graph cell.writes own.present (races.read.0 h), λ h. races.read.1 (missing-outside p.graph cell.writes own.present h));
      write = (
        λ h. ⊎_elim (λ q. inl (outside-missing p.graph cell.writes own.present q)) (λ q. inr (outside-missing p.graph cell.reads own.present q)) (races.write.0 h),
        λ h. races.write.1 (⊎_elim (λ q. inl (missing-outside p.graph cell.writes own.present q)) (λ q. inr (missing-outside p.graph cell.reads own.present q)) h),
      );
    }
