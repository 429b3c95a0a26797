use Rattle.std.proofs.Common.{◌≢◌, ◌∙◌, sym, subst, string_bytes, AllPairs, List, String, Global}
use Rattle.loom_text.proofs.NameLemmas.{differ_still, named_alike, no_such_name}
use Rattle.loom_text.proofs.read.scope.Scope.add_register.Goals as goal

pub invariant_of-self : goal.invariant_of-self
invariant_of-self c =
    let others = c.args.self.now.registers.items in
    record {
      locations_differ = c.args.self.now.locations_differ;
      registers_differ = subst (λ (xs : List (String Global)). AllPairs (λ x y. string_bytes x ≢ string_bytes y) xs) (sym c.push.ensures.items)
          (differ_still (λ (x y : String Global). string_bytes x ≢ string_bytes y) _ others c.in_ok-name.name c.args.self.now.registers_differ
          (λ k d lt same. no_such_name (λ (x : String Global). string_bytes x) others c.args.token.spelling.now (named_alike others c.args.token.spelling.now ∙ c.requires) k d lt (same ∙ c.in_ok-name.ensures.name)));
    }
