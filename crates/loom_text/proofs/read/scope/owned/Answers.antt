use Rattle.std.proofs.Common.{◌≡◌, List, ℕ, Bool, Some, None, cond, string_bytes, ap, sym, rules}
use Rattle.std.proofs.lemmas.Bool.{false_from_ne_true}
use Rattle.std.proofs.lemmas.Str.{IsUtf8-from_is_utf8, is_utf8-from_IsUtf8}
use Rattle.std.specs.Str.{is_utf8}
use Rattle.loom_text.proofs.ReadingSteps.{stops_none}
use Rattle.loom_text.proofs.read.scope.owned.Goals as goal

pub returns-in_ok-from_str-in-Ok-clause-utf8 : goal.returns-in_ok-from_str-in-Ok-clause-utf8
returns-in_ok-from_str-in-Ok-clause-utf8 c =
    let yes = is_utf8-from_IsUtf8 c.args.token.spelling.now c.in-Ok.ensures.cases.1 in
    let kept : string_bytes c.in_ok-from_str-in-Ok.field-0 ≡ c.args.token.spelling.now = search rules in
    rw yes (ap (λ (bytes : List ℕ). Some bytes) (sym kept))

pub returns-in-Err-clause-utf8 : goal.returns-in-Err-clause-utf8
returns-in-Err-clause-utf8 c =
    let spelling = c.args.token.spelling.now in
    let no = false_from_ne_true (is_utf8 spelling) (λ t. c.in-Err.ensures.cases.0 (IsUtf8-from_is_utf8 spelling t)) in
    stops_none c.at.result _ (ap (λ (b : Bool). cond b (Some spelling) None) no)
