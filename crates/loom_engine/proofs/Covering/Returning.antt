-- A part of a covering search that is given back: its rounds, and what its path has to be tried below its floor.
use Rattle.std.proofs.Common.{◌≡◌, ℕ, List, [], ◌∷◌, ◌++◌, map, remove, length, Some, Vec, refl, ap, ap₂, sym, ◌∙◌, subst, inl, inr, append-nil}
use Rattle.std.specs.Prelude.{slice_get}
use Rattle.std.specs.declared.alloc.Global.{Global}
use Rattle.loom_objects.specs.declared.choice.Choice.{Choice}
use Rattle.loom_engine.specs.Walk.Machine.{Machine}
use Rattle.loom_engine.specs.Walk.Lists.{Begins}
use Rattle.loom_engine.specs.Walk.Path.{Stored, choices}
use Rattle.loom_engine.specs.declared.rt.path.node.Node.{Node}
use Rattle.loom_engine.specs.declared.rt.path.opening.Opening.{Opening}
use Rattle.loom_engine.specs.declared.rt.parts.Part.{Part as Kept}
use Rattle.loom_engine.specs.Path.Nodes.{stored}
use Rattle.loom_engine.specs.Parts.Cuts.{Part}
use Rattle.loom_engine.specs.Parts.Openings.{key_at, AreLow}
use Rattle.loom_engine.specs.Parts.Keeping.{part_of, views, keys}
use Rattle.loom_engine.specs.Covering.Spread.{AllRounds, Rounds, Spread, last_run, no_round, note, one_round, one_run}
use Rattle.loom_engine.proofs.Parts.Giving.{HandsEach, each_below, fronted}
use Rattle.loom_engine.proofs.Parts.Keeping.{spread_steps, views_snoc}
use Rattle.loom_engine.proofs.Covering.Spread.{holds}

-- rounds are steps
rounds_spread : (m : Machine) (left : List (List Stored)) (b : List Choice) (p : List Stored) (parts spent : List Part) (issued notes : List (List Choice)) → Spread m left (record { base = b; path = p } ∷ parts) spent issued notes
    → (more : List (List Stored)) (q : List Stored) → Rounds m (length b) p more q → Spread m (more ++ left) (record { base = b; path = q } ∷ parts) spent issued notes
rounds_spread m left b p parts spent issued notes s _ _ no_round = s
rounds_spread m left b p parts spent issued notes s _ later (one_round more before q _ r l full step) =
    one_run (more ++ left) b before q later parts spent issued notes (rounds_spread m left b p parts spent issued notes s more before r) l full step

-- and so is the last one
all_spread : (m : Machine) (left : List (List Stored)) (b : List Choice) (p : List Stored) (parts spent : List Part) (issued notes : List (List Choice)) → Spread m left (record { base = b; path = p } ∷ parts) spent issued notes
    → (more : List (List Stored)) (ends : List Stored) → AllRounds m (length b) p more ends → Spread m (more ++ left) parts (record { base = b; path = ends } ∷ spent) issued notes
all_spread m left b p parts spent issued notes s more ends r =
    subst (λ (l : List (List Stored)). Spread m (l ++ left) parts (record { base = b; path = ends } ∷ spent) issued notes) (sym r.all)
    (subst (λ (q : List Stored). Spread m (r.last ∷ r.earlier ++ left) parts (record { base = b; path = q } ∷ spent) issued notes) (sym r.stays)
    (last_run (r.earlier ++ left) b r.before r.last parts spent issued notes (rounds_spread m left b p parts spent issued notes s r.earlier r.before r.rounds) r.left_by r.full r.none))

-- anything may be noted
noted_each : (m : Machine) (left : List (List Stored)) (parts spent : List Part) (issued notes list : List (List Choice)) → Spread m left parts spent issued notes → Spread m left parts spent issued (list ++ notes)
noted_each m left parts spent issued notes [] s = s
noted_each m left parts spent issued notes (k ∷ list) s = note left k parts spent issued (list ++ notes) (noted_each m left parts spent issued notes list s)

noted_all : (m : Machine) (left : List (List Stored)) (parts spent : List Part) (issued list : List (List Choice)) → Spread m left parts spent issued [] → Spread m left parts spent issued list
noted_all m left parts spent issued list s = subst (λ (l : List (List Choice)). Spread m left parts spent issued l) (append-nil list) (noted_each m left parts spent issued [] list s)

module _ (xs : List Kept) (ts : List (Vec Choice Global)) (i : ℕ) (part : Kept) (nodes : List Node) (list : List Opening) (at : slice_get xs i ≡ Some part) (low : AreLow (length part.base.items) nodes list)
    (ps qs : List Kept) (us : List (Vec Choice Global)) (removed : ps ≡ remove xs i) (m : Machine) (left more : List (List Stored)) (each : HandsEach (Spread m (more ++ left)) ps ts qs us nodes list)
    (spent : List Part) (now : Spread m left (views xs) spent (keys ts) []) where
  front : Spread m left (part_of part ∷ views ps) spent (keys ts) []
  front = fronted xs ts i part ps at removed (Spread m left) (spread_steps m left) spent now

  -- some of its runs are left
  pub left_so : Rounds m (length part.base.items) (stored part.path.nodes) more (stored nodes) → (x : Kept) → x.path.nodes ≡ nodes → x.base.items ≡ part.base.items
      → Spread m (more ++ left) (views (qs ++ x ∷ [])) spent (keys us) []
  left_so r x same base = subst (λ t. Spread m (more ++ left) t spent (keys us) []) (ap (λ t. t ∷ views qs) (sym same_part) ∙ sym (views_snoc qs x [])) handed
    where
      worked : Spread m (more ++ left) (record { base = part.base.items; path = stored nodes } ∷ views ps) spent (keys ts) (map (key_at nodes) list)
      worked =
          noted_all m (more ++ left) (record { base = part.base.items; path = stored nodes } ∷ views ps) spent (keys ts) (map (key_at nodes) list)
          (rounds_spread m left part.base.items (stored part.path.nodes) (views ps) spent (keys ts) [] front more (stored nodes) r)

      begins : Begins part.base.items (choices (stored nodes))
      begins =
          ((holds m (more ++ left) (record { base = part.base.items; path = stored nodes } ∷ views ps) spent (keys ts) (map (key_at nodes) list) worked).kept (record { base = part.base.items; path = stored nodes }) (inl (inl refl))).begins

      handed : Spread m (more ++ left) (record { base = part.base.items; path = stored nodes } ∷ views qs) spent (keys us) []
      handed =
          each (record { base = part.base.items; path = stored nodes } ∷ []) spent (record { base = part.base.items; path = stored nodes }) worked (record { known = inl (inl refl); path = refl })
          (each_below part.base.items begins.0 nodes list begins.1 low.each)

      same_part : part_of x ≡ record { base = part.base.items; path = stored nodes }
      same_part = ap₂ (λ (b : List Choice) (p : List Stored). record { base = b; path = p }) base (ap stored same)

  -- none is
  pub done_so : AllRounds m (length part.base.items) (stored part.path.nodes) more (stored nodes) → Spread m (more ++ left) (views qs) (record { base = part.base.items; path = stored nodes } ∷ spent) (keys us) []
  done_so r =
      each [] (record { base = part.base.items; path = stored nodes } ∷ spent) (record { base = part.base.items; path = stored nodes }) worked (record { known = inr (inl refl); path = refl })
      (each_below part.base.items begins.0 nodes list begins.1 low.each)
    where
      worked : Spread m (more ++ left) (views ps) (record { base = part.base.items; path = stored nodes } ∷ spent) (keys ts) (map (key_at nodes) list)
      worked =
          noted_all m (more ++ left) (views ps) (record { base = part.base.items; path = stored nodes } ∷ spent) (keys ts) (map (key_at nodes) list)
          (all_spread m left part.base.items (stored part.path.nodes) (views ps) spent (keys ts) [] front more (stored nodes) r)

      begins : Begins part.base.items (choices (stored nodes))
      begins =
          ((holds m (more ++ left) (views ps) (record { base = part.base.items; path = stored nodes } ∷ spent) (keys ts) (map (key_at nodes) list) worked).kept (record { base = part.base.items; path = stored nodes }) (inr (inl refl))).begins
