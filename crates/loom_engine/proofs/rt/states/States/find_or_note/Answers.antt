use Rattle.std.proofs.Common.{refl}
use Rattle.loom_engine.proofs.Covering.Adding.{notes_beside}
use Rattle.loom_engine.proofs.rt.states.States.find_or_note.Goals as goal

pub returns-in-Some : goal.returns-in-Some
returns-in-Some g c = (c.in-Some.ensures, refl)

pub returns-in_ok-note-in-None : goal.returns-in_ok-note-in-None
returns-in_ok-note-in-None g c = notes_beside c.args.known.now c.args.self.now c.note.new.self _ _ c.in_ok-note-in-None.ensures
