-- Writes go on from one to the next.
use Rattle.std.proofs.Common.{◌≡◌, ◌≢◌, refl, sym, ap, subst, ◌∙◌, ℕ, List, [], ◌∷◌, ◌++◌, length, Err}
use Rattle.std.proofs.lemmas.List.{append_assoc}
use Rattle.my_frame.specs.Codec.{Codec}
use Rattle.my_link.specs.Looks.{Looks}
use Rattle.my_link.specs.Moves.{Move, Sent, Leads, received_by, sent_by, NoStop, WriteFault}
use Rattle.my_reading.specs.declared.error.Error.{Error}
use Rattle.my_reading.specs.declared.error.Error.TheVariants as errors
use Rattle.my_reading.specs.declared.error.IoError.TheVariants as ios
use Rattle.my_link.specs.declared.poll.Poll.TheVariants.{Ready}
use Rattle.my_packets.specs.Writing.{Sending, GoesOn, Goes, FailsBy, SendsOn}

-- so far in writes that go on
pub record WrittenSoFar (x y : Looks) (s t : Sending) : Type 0 where
  pub moves : List Move
  pub leads : Leads moves x y
  pub unread : received_by moves ≡ []
  pub payload : t.payload ≡ s.payload
  pub begun : t.begun ≡ s.begun
  pub owed : s.owed ≡ sent_by moves ++ t.owed

-- one write more
pub sent_too : (x y z : Looks) (s t u : Sending) → WrittenSoFar x y s t → Goes y z t u → WrittenSoFar x z s u
sent_too x y z s t u so w = record {
  moves = Sent (length t.owed) w.bytes ∷ so.moves;
  leads = (y, so.leads, (w.some, w.looks));
  unread = so.unread;
  payload = w.payload ∙ so.payload;
  begun = w.begun ∙ so.begun;
  owed = so.owed ∙ ap (λ bytes. sent_by so.moves ++ bytes) w.owed ∙ sym (append_assoc (sent_by so.moves) w.bytes u.owed);
}

-- the packets were made, and then these bytes of them were sent
pub gone_on : (c d : Codec) (r s t : Sending) (sent : List ℕ) → GoesOn c d r s [] → t.payload ≡ s.payload
    → t.begun ≡ s.begun → s.owed ≡ sent ++ t.owed → GoesOn c d r t sent
gone_on c d r s t sent goes payload begun owed = record {
  payload = payload ∙ goes.payload;
  begun = begun ∙ goes.begun;
  codec = goes.codec;
  within = goes.within;
  bytes = goes.bytes ∙ owed;
}

-- a write that failed, or found no memory
pub failed : {U : Type 0} (x y z : Looks) (s t u : Sending) (e : Error) → WrittenSoFar x y s t → t.owed ≢ []
    → (u ≡ t) × FailsBy e y z → SendsOn {U = U} x z s u (Ready (Err e))
failed {U} x y z s t u (errors.Io (ios.Io fault)) so some (same, (kind, place, fails)) =
    subst (λ v. SendsOn {U = U} x z s v (Ready (Err (errors.Io (ios.Io fault))))) (sym same) (record {
      sent = sent_by so.moves;
      stop = WriteFault;
      used = record { moves = so.moves; moved = y; leads = so.leads; stops = fails; sent_is = refl; received_is = so.unread };
      payload = so.payload;
      begun = so.begun;
      owed = so.owed;
      ends = (kind, place, some, refl);
    })
failed {U} x y z s t u errors.NoMemory so some (same, still) =
    subst (λ v. SendsOn {U = U} x z s v (Ready (Err errors.NoMemory))) (sym same) (record {
      sent = sent_by so.moves;
      stop = NoStop;
      used = record { moves = so.moves; moved = y; leads = so.leads; stops = still; sent_is = refl; received_is = so.unread };
      payload = so.payload;
      begun = so.begun;
      owed = so.owed;
      ends = refl;
    })
failed {U} x y z s t u (errors.Io (ios.Codec f)) so some (same, never) = absurd never
failed {U} x y z s t u (errors.Driver e) so some (same, never) = absurd never
failed {U} x y z s t u (errors.Server e) so some (same, never) = absurd never
failed {U} x y z s t u (errors.Url e) so some (same, never) = absurd never
failed {U} x y z s t u (errors.Other e) so some (same, never) = absurd never
