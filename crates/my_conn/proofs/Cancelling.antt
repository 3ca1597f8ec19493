-- How a connection's open call is cancelled.
use Rattle.std.proofs.Common.{◌≡◌, ◌∙◌, Bool, true, false, Option, Some, None, is_some, refl, sym, subst}
use Rattle.my_grammar.specs.declared.login.Login.{Login}
use Rattle.my_reading.specs.Calls.{kind_of}
use Rattle.my_reading.specs.Endings.{closes_cancelled}
use Rattle.my_reading.specs.declared.call.CallKind.{CallKind}
use Rattle.my_session.specs.View.{Lifetime}
use Rattle.my_client.specs.declared.tape.Said.TheVariants as says
use Rattle.my_client.specs.declared.tape.Tape.{Tape}
use Rattle.my_client.specs.Kept.{Asked, Kept}
use Rattle.my_client.specs.Reads.{place_kept}
use Rattle.my_session.specs.Sessions.{Seen}
use Rattle.my_client.specs.Cancels.{CancelFor, EachCancel, cancelled_by}
use Rattle.my_client.specs.StandsFor.{StandsFor}
use Rattle.my_client.proofs.Standing.{asked_kind, connected_by, not_both}
use Rattle.my_conn.specs.Conn.{Standing}
use Rattle.my_conn.specs.Cancels.{CancelIs}
use Rattle.my_conn.specs.declared.conn.Fixed.{Fixed}
use Rattle.my_conn.proofs.Standing.{sound}

-- the open call of a connection
module _ (kind : CallKind) (s t : Seen) (p q : Option Tape) (o : Option CallKind) (may : o ≡ Some kind) (each : EachCancel s t p q) where
  pub stands_cancelled : (login : Login) (k : Kept) → StandsFor login s p o k → (a : Asked) × (k.pending ≡ Some a) × StandsFor login t q None (cancelled_by login k a)
  stands_cancelled login k w =
      let a = asked_kind k.pending kind (sym may ∙ w.pending_is) in
      let f : CancelFor login t q k a.0 = each login k a.0 w.rests a.1 w.agrees in (
        a.0,
        a.1,
        record {
          rests = f.rests;
          agrees = f.agrees;
          connected = connected_by k a.0 (says.Cancelled (closes_cancelled (kind_of a.0.call) (place_kept login k))) w.connected;
          pending_is = refl;
        },
      )

  pub sound_cancelled : (b : Bool) → b ≡ false → Standing b s p o → Standing b t q None
  sound_cancelled b e w =
      let old = sound b s p o e w in
      let end = stands_cancelled old.0 old.1 old.2 in
      subst (λ (b : Bool). Standing b t q None) (sym e) (old.0, cancelled_by old.0 old.1 end.0, end.2)

  pub open_cancelled : {L : Type 0} (l m : Lifetime) (f : Fixed) (link : L) (b : Bool) → m ≡ l → is_some q ≡ is_some p → CancelIs (record { seen = s; lifetime = l; link = link; tape = p; pending = o; lost = b; fixed = f }) (record { seen = t; lifetime = m; link = link; tape = q; pending = None; lost = b; fixed = f })
  open_cancelled l m f link b same keeps = record {
    each = λ _ login k w. stands_cancelled login k w;
    keeps = keeps;
    pending = refl;
    link = refl;
    lifetime = same;
    lost = refl;
    fixed = refl;
  }

-- a lost connection has no open call
pub lost_cancelled : {L : Type 0} (l : Lifetime) (f : Fixed) (link : L) (s : Seen) (p : Option Tape) (o : Option CallKind) (b : Bool) → b ≡ true → Standing b s p o → CancelIs (record { seen = s; lifetime = l; link = link; tape = p; pending = o; lost = b; fixed = f }) (record { seen = s; lifetime = l; link = link; tape = p; pending = o; lost = b; fixed = f })
lost_cancelled l f link s p o b e w = record {
  each = λ f. absurd (not_both b f e);
  keeps = refl;
  pending = subst (λ (b : Bool). Standing b s p o) e w;
  link = refl;
  lifetime = refl;
  lost = refl;
  fixed = refl;
}
