-- The session of a connection still stands for what it did.
use Rattle.std.proofs.Common.{ℕ, ◌≡◌, Bool, false, Option, refl, sym, subst}
use Rattle.my_link.specs.Looks.{Looks}
use Rattle.my_link.specs.declared.met.Met.{Met}
use Rattle.my_reading.specs.declared.call.Call.{Call}
use Rattle.my_reading.specs.declared.call.CallKind.{CallKind}
use Rattle.my_client.specs.declared.poll.After.{After}
use Rattle.my_client.specs.declared.tape.Tape.{Tape}
use Rattle.my_session.specs.Sessions.{Seen}
use Rattle.my_session.specs.View.{View}
use Rattle.my_client.specs.Lives.{made_in}
use Rattle.my_client.specs.Calls.{EachCall, Leaves, MayPoll, pending_after}
use Rattle.my_client.specs.StandsFor.{StandsFor}
use Rattle.my_client.proofs.Standing.{fits_after, not_both, pends_after, stands_after}
use Rattle.my_conn.specs.Conn.{Standing}
use Rattle.my_conn.specs.Calls.{CallIs}
use Rattle.my_conn.specs.declared.conn.Fixed.{Fixed}

-- a connection that isn't lost
pub sound : (b : Bool) (s : Seen) (p : Option Tape) (o : Option CallKind) → b ≡ false → Standing b s p o → Standing false s p o
sound b s p o e w = subst (λ (b : Bool). Standing b s p o) e w

pub sound_after : (b : Bool) (s t : Seen) (x y : Looks) (p q : Option Tape) (o n : Option CallKind) (kind : CallKind) (call : Option Call) (m : Met) (after : After) → b ≡ false → n ≡ pending_after kind after → MayPoll kind call o → EachCall call s t x y p q m after → Standing b s p o → Standing b t q n
sound_after b s t x y p q o n kind call m after e new may each w =
    let old = sound b s p o e w in
    let end = stands_after kind call s t x y p q o m after may each old.0 old.1 old.2 in
    let at : Standing false t q n = (old.0, end.0, subst (λ (n : Option CallKind). StandsFor old.0 t q n end.0) (sym new) end.1) in
    subst (λ (b : Bool). Standing b t q n) (sym e) at

module _ {L : Type 0} (look : L → Looks) (now : ℕ) (kind : CallKind) (call : Option Call) (b : Bool) (u v : View) (link other : L) (p q : Option Tape) (o n : Option CallKind) (m : Met) (after : After)
    (e : b ≡ false) (new : n ≡ pending_after kind after) (may : MayPoll kind call o) (each : EachCall call u.seen v.seen (look link) (look other) p q m after) (w : Standing b u.seen p o) where
  pub call_is : (f : Fixed) → Leaves now m.taken u v p q → made_in v ≡ made_in u → CallIs look now kind call (record { seen = u.seen; lifetime = u.lifetime; link = link; tape = p; pending = o; lost = b; fixed = f }) (record { seen = v.seen; lifetime = v.lifetime; link = other; tape = q; pending = n; lost = b; fixed = f }) m after
  call_is f leaves made =
      let old = sound b u.seen p o e w in
      record {
        each = λ _ _ login k v'.
            let end = stands_after kind call u.seen v.seen (look link) (look other) p q o m after may each login k v' in
            (end.0, subst (λ (n : Option CallKind). StandsFor login v.seen q n end.0) (sym new) end.1, end.2);
        loses = λ f g. absurd (not_both b f g);
        lost = λ g. absurd (not_both b e g);
        unmet = λ g. absurd (not_both b e g);
        lives = λ _ _. leaves.lives;
        made = made;
        keeps = λ _. leaves.keeps;
        fixed = refl;
        pending = new;
        fits = fits_after kind call u.seen v.seen (look link) (look other) p q o m after may each old;
        pends = pends_after kind call u.seen v.seen (look link) (look other) p q o m after may each old;
        within = leaves.within;
      }
