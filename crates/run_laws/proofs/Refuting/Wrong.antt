-- The wrong transcripts: each shows a wrong tape.
use Rattle.std.proofs.Common.{◌≡◌, ℕ, List, [], ◌∷◌, Option, Some, None, true, refl, ap, arith}
use Rattle.my_frame.specs.Writing.{le_bytes, len_bytes, text_bytes, text0_bytes, short_bytes}
use Rattle.my_frame.specs.Front.{front_within, front_from}
use Rattle.my_frame.specs.Chunks.{parts_of, chunks, number_after_payload}
use Rattle.my_reply.specs.Column.{names_at, form_at}
use Rattle.my_reply.specs.OkPacket.{fields_at}
use Rattle.my_reply.specs.declared.ok.OkPacket.{OkPacket}
use Rattle.my_handshake.specs.Greeting.{settings_at}
use Rattle.my_handshake.specs.Version.{dotted_at}
use Rattle.my_grammar.specs.Response.{response}
use Rattle.my_reading.specs.Course.{step, run}
use Rattle.my_reading.specs.Place.{facts_at}
use Rattle.my_reading.specs.Reading.{read_calls, reading}
use Rattle.my_reading.specs.Endings.{IsTape}
use Rattle.my_reading.specs.Tape.{Span}
use Rattle.reading_laws.specs.Bytes.{root, connected, tape_of}
use Rattle.reading_laws.proofs.Tapes.Wrong.{are_wrong as tapes_are_wrong}
use Rattle.run_laws.specs.Shown.{NoTranscript}
use Rattle.run_laws.specs.WrongTranscripts.{AreWrong, early}
use Rattle.run_laws.proofs.Refuting.Shown.{are_plain, shown_fields, shown_tape}

none_shows : (ss : List Span) → are_plain ss ≡ true → (IsTape root (tape_of (connected ∷ ss)) → ⊥) → NoTranscript root connected ss
none_shows ss plain wrong plans before later a answers t w h = wrong (shown_tape root plans before later a answers t connected ss refl refl plain w h)

-- an OK with so many warnings
abbrev fields_of : ℕ → Option OkPacket
fields_of n = Some (record { affected = 0; insert = 0; status = record { 0 = 2 }; warnings = n; info = [] })

warnings_of : Option OkPacket → ℕ
warnings_of None = 0
warnings_of (Some ok) = ok.warnings

-- the login's OK is the last one that was read
not_read : fields_of 1 ≡ (facts_at root (reading root (tape_of (connected ∷ early ∷ []))).place).ok → ⊥
unfolding le_bytes len_bytes text_bytes text0_bytes short_bytes front_within front_from parts_of chunks number_after_payload names_at form_at fields_at settings_at dotted_at response step run read_calls reading warnings_of
not_read e = absurd (omega (arith, ap warnings_of e))

pub are_wrong : AreWrong
are_wrong = record {
  other_cells = none_shows _ refl tapes_are_wrong.other_cells;
  invented_row = none_shows _ refl tapes_are_wrong.invented_row;
  early_end = none_shows _ refl tapes_are_wrong.early_end;
  early_none = none_shows _ refl tapes_are_wrong.early_none;
  pending_answer = none_shows _ refl tapes_are_wrong.pending_answer;
  querying_quit = none_shows _ refl tapes_are_wrong.querying_quit;
  silent_quit = none_shows _ refl tapes_are_wrong.silent_quit;
  second_quit = none_shows _ refl tapes_are_wrong.second_quit;
  silent_reset = none_shows _ refl tapes_are_wrong.silent_reset;
  idle_reset = none_shows _ refl tapes_are_wrong.idle_reset;
  old_user = none_shows _ refl tapes_are_wrong.old_user;
  early_change = none_shows _ refl tapes_are_wrong.early_change;
  changed_by_error = none_shows _ refl tapes_are_wrong.changed_by_error;
  kept_over_change = none_shows _ refl tapes_are_wrong.kept_over_change;
  not_undone = none_shows _ refl tapes_are_wrong.not_undone;
  undone_twice = none_shows _ refl tapes_are_wrong.undone_twice;
  undone_early = none_shows _ refl tapes_are_wrong.undone_early;
  begun_twice = none_shows _ refl tapes_are_wrong.begun_twice;
  never_nested = none_shows _ refl tapes_are_wrong.never_nested;
  closing_refusal = none_shows _ refl tapes_are_wrong.closing_refusal;
  late_level = none_shows _ refl tapes_are_wrong.late_level;
  swapped_texts = none_shows _ refl tapes_are_wrong.swapped_texts;
  early_begin = none_shows _ refl tapes_are_wrong.early_begin;
  silent_rollback = none_shows _ refl tapes_are_wrong.silent_rollback;
  committed_by_error = none_shows _ refl tapes_are_wrong.committed_by_error;
  not_rolled_back = none_shows _ refl tapes_are_wrong.not_rolled_back;
  early_refusal = none_shows _ refl tapes_are_wrong.early_refusal;
  second_refusal = none_shows _ refl tapes_are_wrong.second_refusal;
  undone_commit = none_shows _ refl tapes_are_wrong.undone_commit;
  silent_commit = none_shows _ refl tapes_are_wrong.silent_commit;
  other_command = none_shows _ refl tapes_are_wrong.other_command;
  command_after_error = none_shows _ refl tapes_are_wrong.command_after_error;
  early_ready = none_shows _ refl tapes_are_wrong.early_ready;
  idle_drop = none_shows _ refl tapes_are_wrong.idle_drop;
  late_link_fault = none_shows _ refl tapes_are_wrong.late_link_fault;
  late_link_end = none_shows _ refl tapes_are_wrong.late_link_end;
  invented_fault = none_shows _ refl tapes_are_wrong.invented_fault;
  lost_error = none_shows _ refl tapes_are_wrong.lost_error;
  other_number = none_shows _ refl tapes_are_wrong.other_number;
  prepared_again = none_shows _ refl tapes_are_wrong.prepared_again;
  unread_fields = λ plans before later a b answers t w is h. not_read (shown_fields root plans before later a b answers t connected (early ∷ []) (fields_of 1) refl refl refl w is h);
}
