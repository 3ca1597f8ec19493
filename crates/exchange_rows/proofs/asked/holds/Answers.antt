use Rattle.std.proofs.Common.{◌≡◌, Some, ap, sym, ◌∙◌}
use Rattle.std.specs.Prelude.{option_map}
use Rattle.std.proofs.lemmas.Bool.{eqb-true}
use Rattle.my_pool_parts.specs.declared.request.Request.{Request}
use Rattle.my_pool_parts.specs.declared.request.Standing.{Standing}
use Rattle.my_pool_core.specs.Owners.{Looking, Making, token, token_of}
use Rattle.exchange_rows.proofs.asked.holds.Goals as goal

pub returns-in-Dials : goal.returns-in-Dials
returns-in-Dials c = λ e.
    let has : token c.args.age c.args.core.now ≡ Some (Making c.in-Dials.held) =
    ap (option_map (λ (r : Request). token_of r.standing)) (sym c.live_request.ensures ∙ c.in-Some.is)
    ∙ ap (λ (s : Standing). Some (token_of s)) c.in-Dials.is in
    (Making c.in-Dials.held, has, ap Some (eqb-true c.in-Dials.held c.args.number e))

pub returns-in-Checks : goal.returns-in-Checks
returns-in-Checks c = λ e.
    let has : token c.args.age c.args.core.now ≡ Some (Looking c.in-Checks.held) =
    ap (option_map (λ (r : Request). token_of r.standing)) (sym c.live_request.ensures ∙ c.in-Some.is)
    ∙ ap (λ (s : Standing). Some (token_of s)) c.in-Checks.is in
    (Looking c.in-Checks.held, has, ap Some (eqb-true c.in-Checks.held c.args.number e))
