-- Clean tapes and others, computed.
use Rattle.std.proofs.Common.{◌≡◌, ℕ, refl, sym}
use Rattle.std.proofs.lemmas.Bool.{false≢true}
use Rattle.my_frame.specs.Writing.{le_bytes, len_bytes, text_bytes, text0_bytes, short_bytes}
use Rattle.my_frame.specs.Front.{front_within, front_from}
use Rattle.my_frame.specs.Chunks.{parts_of, chunks, number_after_payload}
use Rattle.my_reply.specs.Column.{names_at, form_at}
use Rattle.my_reply.specs.OkPacket.{fields_at}
use Rattle.my_handshake.specs.Greeting.{settings_at}
use Rattle.my_handshake.specs.Version.{dotted_at}
use Rattle.my_grammar.specs.Response.{response}
use Rattle.my_reading.specs.declared.transaction.TxStatus.TheVariants.{None, InTransaction, RequiresRollback}
use Rattle.my_reading.specs.Course.{step, run}
use Rattle.my_reading.specs.Reading.{read_calls, reading}
use Rattle.reading_laws.specs.Bytes.{resets, fine}
use Rattle.reading_laws.specs.CleanTapes.{AreClean, AreUnclean}

in_none : InTransaction ≡ None → ⊥
in_none e = cc

undone_none : RequiresRollback ≡ None → ⊥
undone_none e = cc

none_sent : ◌≡◌ {A = ℕ} 0 64 → ⊥
none_sent e = cc

pub are_clean : AreClean
unfolding le_bytes len_bytes text_bytes text0_bytes short_bytes front_within front_from parts_of chunks number_after_payload names_at form_at fields_at settings_at dotted_at response step run read_calls reading
are_clean = record {
  made = record { alive = refl; ended = refl; read = refl; status = refl };
  read = record { alive = refl; ended = refl; read = refl; status = refl };
  error_dropped = record { alive = refl; ended = refl; read = refl; status = refl };
  undone = record { alive = refl; ended = refl; read = refl; status = refl };
  back = record { alive = refl; ended = refl; read = refl; status = refl };
  dropped = record { alive = refl; ended = refl; read = refl; status = refl };
  anew = record { alive = refl; ended = refl; read = refl; status = refl };
  one_more = record { calls = refl; sent_from = refl; taken_from = refl; sent = resets; taken = fine 1 2; sent_is = refl; taken_is = refl };
}

pub are_unclean : AreUnclean
unfolding le_bytes len_bytes text_bytes text0_bytes short_bytes front_within front_from parts_of chunks number_after_payload names_at form_at fields_at settings_at dotted_at response step run read_calls reading
are_unclean = record {
  call_open = λ w. false≢true w.ended;
  unread = λ w. false≢true w.read;
  end_left = λ w. false≢true w.read;
  in_transaction = λ w. in_none w.status;
  given_up = λ w. undone_none w.status;
  dropped_inside = λ w. in_none w.status;
  too_early = λ w. none_sent w.sent_from;
  closed = λ w. false≢true (sym w.alive);
}
