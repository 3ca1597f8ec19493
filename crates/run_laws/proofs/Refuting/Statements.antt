-- The wrong transcripts with prepared statements: the judge of transcripts finds a line of each wrong.
use Rattle.std.proofs.Common.{refl, sym, ap}
use Rattle.std.proofs.lemmas.Bool.{false≢true}
use Rattle.my_frame.specs.Writing.{le_bytes, len_bytes, text_bytes, text0_bytes, short_bytes}
use Rattle.my_frame.specs.Front.{front_within, front_from}
use Rattle.my_frame.specs.Chunks.{parts_of, chunks, number_after_payload}
use Rattle.my_command.specs.Client.Statement.{null_bitmap}
use Rattle.my_reply.specs.Column.{names_at, form_at}
use Rattle.my_reply.specs.OkPacket.{fields_at}
use Rattle.my_reply.specs.Replies.{prepare_ok_at}
use Rattle.my_handshake.specs.Greeting.{settings_at}
use Rattle.my_handshake.specs.Version.{dotted_at}
use Rattle.my_grammar.specs.Response.{response}
use Rattle.my_reading.specs.Course.{step, run}
use Rattle.my_run_judge.specs.Made.{nothing_made}
use Rattle.my_run_judge.specs.Walks.{start}
use Rattle.run_laws.proofs.Judging.Whole.{AreShown}
use Rattle.reading_laws.specs.Bytes.{root}
use Rattle.run_laws.specs.WrongStatements.{AreNoStatements, closed_answers, closed_steps, closed_tape, text_answers, text_steps, text_tape}
use Rattle.run_laws.proofs.Refuting.Streams.{is_row, none_runs, seen_view}

-- no statement has the number any more
closed_refused : AreShown root 0 (seen_view closed_tape) 0 nothing_made (start root 0) closed_steps closed_answers → ⊥
closed_refused r = r.1.1.1.0.1

-- the row's call comes to a payload that fits no case
text_unfit : AreShown root 0 (seen_view text_tape) 0 nothing_made (start root 0) text_steps text_answers → ⊥
unfolding le_bytes len_bytes text_bytes text0_bytes short_bytes front_within front_from parts_of chunks number_after_payload null_bitmap names_at form_at prepare_ok_at fields_at settings_at dotted_at response step run
text_unfit r = false≢true (sym (ap is_row r.1.1.1.0.1.1.2.1.call.ends))

pub are_no_statements : AreNoStatements
are_no_statements = record {
  closed_execution = none_runs closed_steps closed_answers closed_tape refl closed_refused;
  text_row = none_runs text_steps text_answers text_tape refl text_unfit;
}
