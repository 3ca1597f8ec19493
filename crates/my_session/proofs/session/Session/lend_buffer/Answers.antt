use Rattle.my_session.proofs.session.Session.lend_buffer.Goals as goal

pub invariant_of-self-then-len-size : goal.invariant_of-self-then-len-size
invariant_of-self-then-len-size c = λ alive. let here = c.self.invariant alive in record { at = here.at; account = here.account }
