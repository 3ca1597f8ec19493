-- How a connection's transaction is given up.
use Rattle.std.proofs.Common.{◌≡◌, Bool, false, Option, None, is_some, refl, sym, subst}
use Rattle.my_reading.specs.declared.call.CallKind.{CallKind}
use Rattle.my_session.specs.View.{Lifetime}
use Rattle.my_client.specs.declared.tape.Tape.{Tape}
use Rattle.my_session.specs.Sessions.{Seen}
use Rattle.my_client.proofs.Resting.{rests_idle}
use Rattle.my_client.specs.Forgets.{EachForget, forgotten}
use Rattle.my_client.specs.StandsFor.{StandsFor}
use Rattle.my_client.proofs.Standing.{no_asked, not_both}
use Rattle.my_conn.specs.Conn.{Standing}
use Rattle.my_conn.specs.Forgets.{ForgetIs}
use Rattle.my_conn.specs.declared.conn.Fixed.{Fixed}
use Rattle.my_conn.proofs.Standing.{sound}

-- where no call of it is open, its session has no open call
pub may_forget : (b : Bool) (s : Seen) (p : Option Tape) (o : Option CallKind) → o ≡ None → b ≡ false → Standing b s p o → s.opened ≡ None
may_forget b s p o none e w =
    let old = sound b s p o e w in
    let at : StandsFor old.0 s p None old.1 = subst (λ (o : Option CallKind). StandsFor old.0 s p o old.1) none old.2 in
    rests_idle old.0 s old.1 at.rests.stands (no_asked old.1.pending at.pending_is)

module _ (s t : Seen) (p q : Option Tape) (o : Option CallKind) (b : Bool) (none : o ≡ None) (e : b ≡ false) (each : EachForget s t p q) where
  pub sound_forgotten : Standing b s p o → Standing b t q o
  sound_forgotten w =
      let old = sound b s p o e w in
      let at : Standing false t q None = (old.0, forgotten old.1, each old.0 old.1 (subst (λ (o : Option CallKind). StandsFor old.0 s p o old.1) none old.2)) in
      subst (λ (b : Bool). Standing b t q o) (sym e) (subst (λ (o : Option CallKind). Standing false t q o) (sym none) at)

  pub forget_is : {L : Type 0} (l m : Lifetime) (f : Fixed) (link : L) → m ≡ l → is_some q ≡ is_some p → ForgetIs (record { seen = s; lifetime = l; link = link; tape = p; pending = o; lost = b; fixed = f }) (record { seen = t; lifetime = m; link = link; tape = q; pending = o; lost = b; fixed = f })
  forget_is l m f link same keeps = record {
    each = λ _ _. each;
    loses = λ g h. absurd (not_both b g h);
    lost = λ g. absurd (not_both b e g);
    keeps = λ _. keeps;
    pending = none;
    link = refl;
    lifetime = same;
    fixed = refl;
  }
