-- A graph grows by a thread's moves: what was there keeps being shown, for every other place and thread.
use Rattle.std.proofs.Common.{◌≢◌, ℕ, List, refl, Some, None}
use Rattle.std.proofs.lemmas.Bool.{ne_eqb}
use Rattle.loom_views.specs.declared.rt.synchronize.ThreadViews.{ThreadViews}
use Rattle.loom_views.specs.Graph.{Graph, Shows, IsPresent, moved, moved_raising}
use Rattle.loom_views.specs.ThreadViews.{ThreadPoints, ShowsThread}
use Rattle.loom_views.specs.AccessRecords.{ShowsRecord}
use Rattle.loom_views.proofs.Views.Views.{shows-old, present-old}
use Rattle.loom_views.proofs.Views.ThreadMoves.{thread-old}
use Rattle.loom_views.proofs.Views.Records.{record-old}

-- the right graph has more points, which raise nothing or thread t
pub data GrownBy (t : ℕ) (g : Graph) : Graph → Type 0 where
  same : GrownBy t g g
  quiet : {g' : Graph} (js : List ℕ) → GrownBy t g g' → GrownBy t g (moved g' js)
  raising : {g' : Graph} (js : List ℕ) → GrownBy t g g' → GrownBy t g (moved_raising g' js t)

pub shows-grown : {t : ℕ} {g g' : Graph} → GrownBy t g g' → (k : ℕ) (vs : List ℕ) → Shows g k vs → Shows g' k vs
shows-grown same k vs h = h
shows-grown (quiet {g' = g'} js r) k vs h = shows-old (record { after = js; raises = None }) g' k vs (shows-grown r k vs h)
shows-grown {t} (raising {g' = g'} js r) k vs h = shows-old (record { after = js; raises = Some t }) g' k vs (shows-grown r k vs h)

pub thread-grown : {t : ℕ} {g g' : Graph} → GrownBy t g g' → (u : ℕ) (p : ThreadPoints) (views : ThreadViews) → ShowsThread g u p views → ShowsThread g' u p views
thread-grown same u p views h = h
thread-grown (quiet {g' = g'} js r) u p views h = thread-old (record { after = js; raises = None }) g' u p views (thread-grown r u p views h)
thread-grown {t} (raising {g' = g'} js r) u p views h = thread-old (record { after = js; raises = Some t }) g' u p views (thread-grown r u p views h)

pub record-grown : {t : ℕ} {g g' : Graph} → GrownBy t g g' → (ks : List ℕ) (vs : List ℕ) → ShowsRecord g ks vs → ShowsRecord g' ks vs
record-grown same ks vs h = h
record-grown (quiet {g' = g'} js r) ks vs h = record-old (record { after = js; raises = None }) g' ks vs (record-grown r ks vs h)
record-grown {t} (raising {g' = g'} js r) ks vs h = record-old (record { after = js; raises = Some t }) g' ks vs (record-grown r ks vs h)

-- another thread's present point stays what it is
pub present-grown : {t : ℕ} {g g' : Graph} → GrownBy t g g' → (u k : ℕ) → t ≢ u → IsPresent g u k → IsPresent g' u k
present-grown same u k n h = h
present-grown (quiet {g' = g'} js r) u k n h = present-old (record { after = js; raises = None }) g' u k refl (present-grown r u k n h)
present-grown {t} (raising {g' = g'} js r) u k n h = present-old (record { after = js; raises = Some t }) g' u k (ne_eqb t u n) (present-grown r u k n h)

pub grown-joined : {t : ℕ} {g g' g'' : Graph} → GrownBy t g g' → GrownBy t g' g'' → GrownBy t g g''
grown-joined r same = r
grown-joined r (quiet js q) = quiet js (grown-joined r q)
grown-joined r (raising js q) = raising js (grown-joined r q)
