-- Moves in turn and out of it.
use Rattle.std.proofs.Common.{◌≡◌, List, [], ◌∷◌, ◌++◌, length, Some, refl, sym, ◌∙◌, arith}
use Rattle.std.proofs.lemmas.Bool.{false≢true}
use Rattle.my_frame.specs.Writing.{le_bytes, len_bytes, text_bytes, text0_bytes, short_bytes}
use Rattle.my_frame.specs.Front.{front_within, front_from}
use Rattle.my_frame.specs.Chunks.{parts_of, chunks, number_after_payload}
use Rattle.my_reply.specs.Column.{names_at, form_at}
use Rattle.my_reply.specs.OkPacket.{fields_at}
use Rattle.my_handshake.specs.Greeting.{settings_at}
use Rattle.my_handshake.specs.Version.{dotted_at}
use Rattle.my_grammar.specs.Response.{response as responds}
use Rattle.my_grammar.specs.declared.login.Login.{Login}
use Rattle.my_reading.specs.Course.{step, run, Owes, Awaits, Returns}
use Rattle.my_reading.specs.Reading.{read_calls, reading}
use Rattle.my_reading.specs.Told.{Told}
use Rattle.my_link.specs.declared.link.ReadItem.TheVariants.{Bytes, Turn}
use Rattle.my_link.specs.Moves.{Move, Received, Sent, ReadHold}
use Rattle.my_client.specs.Kept.{Kept, first_kept}
use Rattle.my_client.specs.Reads.{stop_kept}
use Rattle.my_client.specs.Polls.{AreInTurn, IsInTurn}
use Rattle.reading_laws.specs.Bytes.{root, greeting, response, rolls_back, pings}
use Rattle.turn_laws.specs.Turns.{NoEarlyPing, PingInTurn, NoEarlyLogin, NoFaultOutOfTurn, NoReadingOn, RightLogin, planned, forgot}

-- the oldest move of those in turn is in turn itself
oldest : (ms : List Move) (m : Move) (k : Kept) (login : Login) → AreInTurn login k (ms ++ m ∷ []) → IsInTurn login k m
oldest [] m k login t = t.1
oldest (n ∷ ms) m k login t = oldest ms m k login t.0

pub no_early_ping : NoEarlyPing
unfolding le_bytes len_bytes text_bytes text0_bytes short_bytes front_within front_from parts_of chunks number_after_payload names_at form_at fields_at settings_at dotted_at responds step run read_calls reading
no_early_ping ms offered t = false≢true (oldest ms (Sent offered (rolls_back ++ pings)) forgot root t).1

pub ping_in_turn : PingInTurn
unfolding le_bytes len_bytes text_bytes text0_bytes short_bytes front_within front_from parts_of chunks number_after_payload names_at form_at fields_at settings_at dotted_at responds step run read_calls reading
ping_in_turn = ((((tt, (refl, refl)), refl), (refl, refl)), refl)

awaits_first : stop_kept root first_kept ≡ Some Awaits
unfolding le_bytes len_bytes text_bytes text0_bytes short_bytes front_within front_from parts_of chunks number_after_payload names_at form_at fields_at settings_at dotted_at responds step run read_calls reading
awaits_first = refl

other_stops : Some Awaits ≡ Some Owes → ⊥
other_stops e = cc

pub no_early_login : NoEarlyLogin
no_early_login ms offered bytes t = other_stops (sym awaits_first ∙ (oldest ms (Sent offered bytes) first_kept root t).0)

pub no_fault_out_of_turn : NoFaultOutOfTurn
no_fault_out_of_turn n place t o = (λ e. cc, λ e. cc, λ e. cc, λ e. cc, λ e. cc, λ e. cc, λ e. cc, λ e. cc, λ e. cc, λ e. cc, λ e. cc)

returns_awaits : (t : Told) → Some (Returns t) ≡ Some Awaits → ⊥
returns_awaits t e = cc

returns_owes : (t : Told) → Some (Returns t) ≡ Some Owes → ⊥
returns_owes t e = cc

pub no_reading_on : NoReadingOn
no_reading_on login k ms (Received bytes) t comes turns = returns_awaits t (sym comes ∙ turns.1)
no_reading_on login k ms (Sent offered bytes) t comes turns = returns_owes t (sym comes ∙ turns.1.0)

pub right_login : RightLogin
unfolding le_bytes len_bytes text_bytes text0_bytes short_bytes front_within front_from parts_of chunks number_after_payload names_at form_at fields_at settings_at dotted_at responds step run read_calls reading
right_login = record {
  moves = Sent (length (response [])) (response []) ∷ Received greeting ∷ [];
  stop = ReadHold;
  moved = planned [] (response []);
  leads = (
    planned (Turn ∷ []) [],
    (planned (Bytes greeting ∷ Turn ∷ []) [], refl, (omega arith, record { items = record { rest = []; more = Turn ∷ []; stood = refl; stands = refl }; writes = refl; got = refl; counts = refl })),
    (omega arith, record { items = refl; writes = (refl, refl); got = refl; counts = refl }),
  );
  stops = record { items = refl; writes = refl; got = refl; counts = record { faults = refl; holds = (omega arith, omega arith); ends = refl; deaths = refl } };
  turns = ((tt, refl), (refl, refl));
  met = refl;
  within = omega arith;
  comes = refl;
  ends = refl;
}
