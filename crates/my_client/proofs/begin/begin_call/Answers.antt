use Rattle.std.proofs.Common.{◌≡◌, Some, Ok, Err, refl, sym, ap, ◌∙◌, subst}
use Rattle.std.proofs.lemmas.Bool.{false≢true}
use Rattle.std.proofs.lemmas.Result.{IfOk-weaker}
use Rattle.std.specs.Result.{IfOk, OnOk}
use Rattle.std.specs.declared.result.Result.{Result}
use Rattle.my_link.specs.Met.{nothing_met}
use Rattle.my_link.specs.declared.met.Met.{Met}
use Rattle.my_reading.specs.declared.error.Error.{Error}
use Rattle.my_client.specs.declared.poll.After.{After}
use Rattle.my_client.specs.declared.poll.After.TheVariants.{Failed}
use Rattle.my_client.specs.Calls.{EachCall, Leaves}
use Rattle.my_client.proofs.Calling.{begun_call, leaves_begun, leaves_refused, refused_call}
use Rattle.my_client.proofs.begin.begin_call.Goals as goal

-- of a call that is refused
refused_by : {E : Type 0} (r : Result (After × Met) E) (N : Type 0) (R : After → Met → Type 0) (e : Error) → IfOk r (λ p. p.0 ≡ Failed e) → IfOk r (λ p. p.1 ≡ nothing_met) → OnOk r N → ((m : Met) → m ≡ nothing_met → N → R (Failed e) m) → IfOk r (λ p. R p.0 p.1)
refused_by (Ok p) N R e after none n f = subst (λ (x : After). R x p.1) (sym after) (f p.1 none n)
refused_by (Err x) N R e after none n f = tt

pub returns-in-Ok-begin-clause-does : goal.returns-in-Ok-begin-clause-does
returns-in-Ok-begin-clause-does g c = IfOk-weaker c.poll_open.result _ _
    (λ p f. begun_call c.args.session.now.seen c.begin.new.self.seen c.poll_open.new.session.seen _ _ c.args.tape.now c.note_call.new.tape c.poll_open.new.tape c.args.call p.1 p.0 (λ e. false≢true (c.in-Ok-begin.ensures.refused.1 e)) c.in-Ok.ensures.noted c.in-Ok-begin.ensures.ok f)
    c.poll_open.ensures.does

pub returns-in-Err-begin-clause-does : goal.returns-in-Err-begin-clause-does
returns-in-Err-begin-clause-does g c =
    let x = g.L.Link.looks c.args.link.now in
    let why = c.in-Err-begin.ensures in
    refused_by c.note_refusal.result _ (λ after m. EachCall (Some c.args.call) c.args.session.now.seen c.begin.new.self.seen x x c.args.tape.now c.note_refusal.new.tape m after) c.in-Err-begin.error c.note_refusal.ensures.after c.note_refusal.ensures.met c.note_refusal.ensures.noted
    (λ m none noted. refused_call c.args.session.now.seen c.begin.new.self.seen x x c.args.tape.now c.note_call.new.tape c.note_refusal.new.tape c.args.call m c.in-Err-begin.error c.in-Ok.ensures.noted (why.refused.0 refl) why.err why.why refl none noted)

pub returns-in-Ok-begin-clause-leaves : goal.returns-in-Ok-begin-clause-leaves
returns-in-Ok-begin-clause-leaves g c = IfOk-weaker c.poll_open.result _ _
    (λ p w. leaves_begun c.args.now p.1.taken c.args.session.now c.begin.new.self c.poll_open.new.session c.args.tape.now c.note_call.new.tape c.poll_open.new.tape c.args.call c.in-Ok-begin.ensures.ok c.in-Ok-begin.ensures.lifetime c.in-Ok.ensures.keeps w)
    c.poll_open.ensures.leaves

pub returns-in-Err-begin-clause-leaves : goal.returns-in-Err-begin-clause-leaves
returns-in-Err-begin-clause-leaves g c =
    refused_by c.note_refusal.result _ (λ after m. Leaves c.args.now m.taken c.args.session.now c.begin.new.self c.args.tape.now c.note_refusal.new.tape) c.in-Err-begin.error c.note_refusal.ensures.after c.note_refusal.ensures.met c.note_refusal.ensures.keeps
    (λ m none kept. leaves_refused c.args.now m.taken c.args.session.now c.begin.new.self c.args.tape.now c.note_refusal.new.tape (ap (λ (m : Met). m.taken) none) c.in-Err-begin.ensures.err c.in-Err-begin.ensures.lifetime (kept ∙ c.in-Ok.ensures.keeps))
