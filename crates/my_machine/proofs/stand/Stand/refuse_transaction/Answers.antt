use Rattle.std.proofs.Common.{◌≡◌, Option, refl, sym, ap, ◌∙◌, subst}
use Rattle.my_handshake.specs.Version.{version_of}
use Rattle.my_reading.specs.declared.error.DriverError.{DriverError}
use Rattle.my_reading.specs.Transactions.{begin_refusal}
use Rattle.my_machine.specs.declared.step.Step.TheVariants.{Passes}
use Rattle.my_machine.specs.Stands.{IsTurn, refuses}
use Rattle.my_machine.proofs.stand.Stand.refuse_transaction.Goals as goal

pub returns-in-Some : goal.returns-in-Some
returns-in-Some c =
    let s = c.args.self.now in
    let is : c.begin_refusal.result ≡ begin_refusal c.args.opts (version_of s.facts.version) s.status
    = c.begin_refusal.ensures ∙ ap (λ v. begin_refusal c.args.opts v s.status) (c.server_version-version.ensures ∙ ap version_of c.as_slice.ensures) in
    subst (λ (x : Option DriverError). IsTurn (refuses x s) c.failure.result s) (sym c.in-Some.is ∙ is) (record { does_is = sym c.failure.ensures; stand_is = refl })

pub returns-in-None : goal.returns-in-None
returns-in-None c =
    let s = c.args.self.now in
    let is : c.begin_refusal.result ≡ begin_refusal c.args.opts (version_of s.facts.version) s.status
    = c.begin_refusal.ensures ∙ ap (λ v. begin_refusal c.args.opts v s.status) (c.server_version-version.ensures ∙ ap version_of c.as_slice.ensures) in
    subst (λ (x : Option DriverError). IsTurn (refuses x s) Passes s) (sym c.in-None.is ∙ is) (record { does_is = refl; stand_is = refl })
