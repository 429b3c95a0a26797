use Rattle.std.proofs.Common.{◌≡◌, true, inl, rules}
use Rattle.loom.proofs.model.cover.run.look_up.Goals as goal

pub returns-in-Some : goal.returns-in-Some
returns-in-Some g c =
    let explores : c.explores_now.result ≡ true = search rules in
    let used : c.is_used_up.result ≡ true = search rules in
    let found = rw c.in-Some.is at c.in_ok-number.ensures in
    record { views = found.0; order = found.1; looks = (rw c.explores_now.ensures at explores, rw c.is_used_up.ensures at used, found.2.0, found.2.1) }

pub returns-in-None : goal.returns-in-None
returns-in-None g c =
    let explores : c.explores_now.result ≡ true = search rules in
    let used : c.is_used_up.result ≡ true = search rules in
    let found = rw c.in-None.is at c.in_ok-number.ensures in
    record { views = found.0; order = found.1; looks = inl (rw c.explores_now.ensures at explores, rw c.is_used_up.ensures at used, found.2) }
