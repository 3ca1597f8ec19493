-- The right tapes, computed.
use Rattle.std.proofs.Common.{refl}
use Rattle.my_frame.specs.Writing.{le_bytes, len_bytes, text_bytes, text0_bytes, short_bytes}
use Rattle.my_frame.specs.Front.{front_within, front_from}
use Rattle.my_frame.specs.Chunks.{parts_of, chunks, number_after_payload}
use Rattle.my_command.specs.Client.Statement.{null_bitmap}
use Rattle.my_reply.specs.Column.{names_at, form_at}
use Rattle.my_reply.specs.Replies.{prepare_ok_at}
use Rattle.my_reply.specs.OkPacket.{fields_at}
use Rattle.my_handshake.specs.Greeting.{settings_at}
use Rattle.my_handshake.specs.Version.{dotted_at}
use Rattle.my_grammar.specs.Response.{response}
use Rattle.my_auth.specs.Scrambles.{native_scramble}
use Rattle.sha1.specs.Sha1.{first_words, schedule, rounds, compress, hash_after, digest_bytes, sha1}
use Rattle.my_reading.specs.Course.{step, run}
use Rattle.my_reading.specs.Endings.{IsOpen, IsCancelled}
use Rattle.my_reading.specs.Reading.{read_calls, reading}
use Rattle.reading_laws.specs.RightTapes.{AreRight}

pub are_right : AreRight
unfolding le_bytes len_bytes text_bytes text0_bytes short_bytes front_within front_from parts_of chunks number_after_payload null_bitmap names_at form_at prepare_ok_at fields_at settings_at dotted_at response step run read_calls reading native_scramble first_words schedule rounds compress hash_after digest_bytes sha1
are_right = record {
  row_read = record { first = refl; calls = (record { ends = refl; sent = refl; quiet = refl }, (record { ends = refl; sent = refl; quiet = refl }, (record { ends = refl; sent = refl; quiet = refl }, (record { ends = refl; sent = refl; quiet = refl }, (record { ends = refl; sent = refl; quiet = refl }, (record { ends = refl; sent = refl; quiet = refl }, (record { ends = refl; sent = refl; quiet = refl }, tt))))))); order = record { first = refl; order = refl } };
  lone_ok = record { first = refl; calls = (record { ends = refl; sent = refl; quiet = refl }, (record { ends = refl; sent = refl; quiet = refl }, (record { ends = refl; sent = refl; quiet = refl }, (record { ends = refl; sent = refl; quiet = refl }, tt)))); order = record { first = refl; order = refl } };
  earlier_error = record { first = refl; calls = (record { ends = refl; sent = refl; quiet = refl }, (record { ends = refl; sent = refl; quiet = refl }, (record { ends = refl; sent = refl; quiet = refl }, tt))); order = record { first = refl; order = refl } };
  read_open = record { first = refl; calls = (record { ends = refl; sent = refl; quiet = refl }, (record { ends = refl; sent = refl; quiet = refl }, (record { ends = IsCancelled refl; sent = refl; quiet = refl }, (record { ends = IsOpen refl; sent = refl; quiet = refl }, tt)))); order = record { first = refl; order = refl } };
  drop_cancelled = record { first = refl; calls = (record { ends = refl; sent = refl; quiet = refl }, (record { ends = refl; sent = refl; quiet = refl }, (record { ends = IsCancelled refl; sent = refl; quiet = refl }, (record { ends = refl; sent = refl; quiet = refl }, tt)))); order = record { first = refl; order = refl } };
  set_taken = record { first = refl; calls = (record { ends = refl; sent = refl; quiet = refl }, (record { ends = refl; sent = refl; quiet = refl }, (record { ends = refl; sent = refl; quiet = refl }, (record { ends = refl; sent = refl; quiet = refl }, (record { ends = refl; sent = refl; quiet = refl }, (record { ends = refl; sent = refl; quiet = refl }, tt)))))); order = record { first = refl; order = refl } };
  lone_taken = record { first = refl; calls = (record { ends = refl; sent = refl; quiet = refl }, (record { ends = refl; sent = refl; quiet = refl }, (record { ends = refl; sent = refl; quiet = refl }, (record { ends = refl; sent = refl; quiet = refl }, (record { ends = refl; sent = refl; quiet = refl }, tt))))); order = record { first = refl; order = refl } };
  set_up = record { first = refl; calls = (record { ends = refl; sent = refl; quiet = refl }, tt); order = record { first = refl; order = refl } };
  limit = refl;
  password = record { first = refl; calls = (record { ends = refl; sent = refl; quiet = refl }, tt); order = record { first = refl; order = refl } };
  executed = record { first = refl; calls = (record { ends = refl; sent = refl; quiet = refl }, (record { ends = refl; sent = refl; quiet = refl }, (record { ends = refl; sent = refl; quiet = refl }, (record { ends = refl; sent = refl; quiet = refl }, (record { ends = refl; sent = refl; quiet = refl }, (record { ends = refl; sent = refl; quiet = refl }, (record { ends = refl; sent = refl; quiet = refl }, tt))))))); order = record { first = refl; order = refl } };
  batch = record { first = refl; calls = (record { ends = refl; sent = refl; quiet = refl }, (record { ends = refl; sent = refl; quiet = refl }, (record { ends = refl; sent = refl; quiet = refl }, (record { ends = refl; sent = refl; quiet = refl }, tt)))); order = record { first = refl; order = refl } };
  empty_batch = record { first = refl; calls = (record { ends = refl; sent = refl; quiet = refl }, (record { ends = refl; sent = refl; quiet = refl }, (record { ends = refl; sent = refl; quiet = refl }, (record { ends = refl; sent = refl; quiet = refl }, tt)))); order = record { first = refl; order = refl } };
  cut_batch = record { first = refl; calls = (record { ends = refl; sent = refl; quiet = refl }, (record { ends = refl; sent = refl; quiet = refl }, (record { ends = refl; sent = refl; quiet = refl }, (record { ends = refl; sent = refl; quiet = refl }, tt)))); order = record { first = refl; order = refl } };
  one_cached = record { first = refl; calls = (record { ends = refl; sent = refl; quiet = refl }, (record { ends = refl; sent = refl; quiet = refl }, (record { ends = refl; sent = refl; quiet = refl }, tt))); order = record { first = refl; order = refl } };
  refused = record { first = refl; calls = (record { ends = refl; sent = refl; quiet = refl }, (record { ends = refl; sent = refl; quiet = refl }, (record { ends = refl; sent = refl; quiet = refl }, (record { ends = refl; sent = refl; quiet = refl }, (record { ends = refl; sent = refl; quiet = refl }, tt))))); order = record { first = refl; order = refl } };
  reset_whole = record { first = refl; calls = (record { ends = refl; sent = refl; quiet = refl }, (record { ends = refl; sent = refl; quiet = refl }, tt)); order = record { first = refl; order = refl } };
  not_reset = record { first = refl; calls = (record { ends = refl; sent = refl; quiet = refl }, (record { ends = refl; sent = refl; quiet = refl }, (record { ends = refl; sent = refl; quiet = refl }, (record { ends = refl; sent = refl; quiet = refl }, tt)))); order = record { first = refl; order = refl } };
  prepared_anew = record { first = refl; calls = (record { ends = refl; sent = refl; quiet = refl }, (record { ends = refl; sent = refl; quiet = refl }, (record { ends = refl; sent = refl; quiet = refl }, (record { ends = refl; sent = refl; quiet = refl }, tt)))); order = record { first = refl; order = refl } };
  reset_refused = record { first = refl; calls = (record { ends = refl; sent = refl; quiet = refl }, (record { ends = refl; sent = refl; quiet = refl }, (record { ends = refl; sent = refl; quiet = refl }, (record { ends = refl; sent = refl; quiet = refl }, tt)))); order = record { first = refl; order = refl } };
  transaction = record { first = refl; calls = (record { ends = refl; sent = refl; quiet = refl }, (record { ends = refl; sent = refl; quiet = refl }, (record { ends = refl; sent = refl; quiet = refl }, (record { ends = refl; sent = refl; quiet = refl }, (record { ends = refl; sent = refl; quiet = refl }, tt))))); order = record { first = refl; order = refl } };
  commit = record { first = refl; calls = (record { ends = refl; sent = refl; quiet = refl }, (record { ends = refl; sent = refl; quiet = refl }, (record { ends = refl; sent = refl; quiet = refl }, (record { ends = refl; sent = refl; quiet = refl }, (record { ends = refl; sent = refl; quiet = refl }, tt))))); order = record { first = refl; order = refl } };
  not_committed = record { first = refl; calls = (record { ends = refl; sent = refl; quiet = refl }, (record { ends = refl; sent = refl; quiet = refl }, (record { ends = refl; sent = refl; quiet = refl }, (record { ends = refl; sent = refl; quiet = refl }, tt)))); order = record { first = refl; order = refl } };
  neither = record { first = refl; calls = (record { ends = refl; sent = refl; quiet = refl }, (record { ends = refl; sent = refl; quiet = refl }, (record { ends = refl; sent = refl; quiet = refl }, (record { ends = refl; sent = refl; quiet = refl }, tt)))); order = record { first = refl; order = refl } };
  rest_refused = record { first = refl; calls = (record { ends = refl; sent = refl; quiet = refl }, (record { ends = refl; sent = refl; quiet = refl }, (record { ends = refl; sent = refl; quiet = refl }, (record { ends = refl; sent = refl; quiet = refl }, (record { ends = refl; sent = refl; quiet = refl }, tt))))); order = record { first = refl; order = refl } };
  begun_so = record { first = refl; calls = (record { ends = refl; sent = refl; quiet = refl }, (record { ends = refl; sent = refl; quiet = refl }, tt)); order = record { first = refl; order = refl } };
  given_up = record { first = refl; calls = (record { ends = refl; sent = refl; quiet = refl }, (record { ends = refl; sent = refl; quiet = refl }, (record { ends = refl; sent = refl; quiet = refl }, (record { ends = refl; sent = refl; quiet = refl }, (record { ends = refl; sent = refl; quiet = refl }, tt))))); order = record { first = refl; order = refl } };
  rest_first = record { first = refl; calls = (record { ends = refl; sent = refl; quiet = refl }, (record { ends = refl; sent = refl; quiet = refl }, (record { ends = refl; sent = refl; quiet = refl }, (record { ends = refl; sent = refl; quiet = refl }, (record { ends = refl; sent = refl; quiet = refl }, tt))))); order = record { first = refl; order = refl } };
  given_up_still = record { first = refl; calls = (record { ends = refl; sent = refl; quiet = refl }, (record { ends = refl; sent = refl; quiet = refl }, (record { ends = refl; sent = refl; quiet = refl }, (record { ends = refl; sent = refl; quiet = refl }, (record { ends = refl; sent = refl; quiet = refl }, tt))))); order = record { first = refl; order = refl } };
  undone_once = record { first = refl; calls = (record { ends = refl; sent = refl; quiet = refl }, (record { ends = refl; sent = refl; quiet = refl }, (record { ends = refl; sent = refl; quiet = refl }, (record { ends = refl; sent = refl; quiet = refl }, (record { ends = refl; sent = refl; quiet = refl }, tt))))); order = record { first = refl; order = refl } };
  not_nested = record { first = refl; calls = (record { ends = refl; sent = refl; quiet = refl }, (record { ends = refl; sent = refl; quiet = refl }, (record { ends = refl; sent = refl; quiet = refl }, (record { ends = refl; sent = refl; quiet = refl }, tt)))); order = record { first = refl; order = refl } };
  not_told = record { first = refl; calls = (record { ends = refl; sent = refl; quiet = refl }, (record { ends = refl; sent = refl; quiet = refl }, (record { ends = refl; sent = refl; quiet = refl }, tt))); order = record { first = refl; order = refl } };
  begin_refused = record { first = refl; calls = (record { ends = refl; sent = refl; quiet = refl }, (record { ends = refl; sent = refl; quiet = refl }, (record { ends = refl; sent = refl; quiet = refl }, tt))); order = record { first = refl; order = refl } };
  given_up_closed = record { first = refl; calls = (record { ends = refl; sent = refl; quiet = refl }, (record { ends = refl; sent = refl; quiet = refl }, (record { ends = refl; sent = refl; quiet = refl }, (record { ends = refl; sent = refl; quiet = refl }, tt)))); order = record { first = refl; order = refl } };
  user_changed = record { first = refl; calls = (record { ends = refl; sent = refl; quiet = refl }, (record { ends = refl; sent = refl; quiet = refl }, (record { ends = refl; sent = refl; quiet = refl }, tt))); order = record { first = refl; order = refl } };
  secret_kept = record { first = refl; calls = (record { ends = refl; sent = refl; quiet = refl }, (record { ends = refl; sent = refl; quiet = refl }, tt)); order = record { first = refl; order = refl } };
  set_up_anew = record { first = refl; calls = (record { ends = refl; sent = refl; quiet = refl }, (record { ends = refl; sent = refl; quiet = refl }, (record { ends = refl; sent = refl; quiet = refl }, (record { ends = refl; sent = refl; quiet = refl }, tt)))); order = record { first = refl; order = refl } };
  change_refused = record { first = refl; calls = (record { ends = refl; sent = refl; quiet = refl }, (record { ends = refl; sent = refl; quiet = refl }, (record { ends = refl; sent = refl; quiet = refl }, (record { ends = refl; sent = refl; quiet = refl }, (record { ends = refl; sent = refl; quiet = refl }, tt))))); order = record { first = refl; order = refl } };
  rest_cleaned = record { first = refl; calls = (record { ends = refl; sent = refl; quiet = refl }, (record { ends = refl; sent = refl; quiet = refl }, (record { ends = refl; sent = refl; quiet = refl }, (record { ends = refl; sent = refl; quiet = refl }, tt)))); order = record { first = refl; order = refl } };
  error_cleaned = record { first = refl; calls = (record { ends = refl; sent = refl; quiet = refl }, (record { ends = refl; sent = refl; quiet = refl }, (record { ends = refl; sent = refl; quiet = refl }, (record { ends = refl; sent = refl; quiet = refl }, tt)))); order = record { first = refl; order = refl } };
  transaction_cleaned = record { first = refl; calls = (record { ends = refl; sent = refl; quiet = refl }, (record { ends = refl; sent = refl; quiet = refl }, (record { ends = refl; sent = refl; quiet = refl }, (record { ends = refl; sent = refl; quiet = refl }, tt)))); order = record { first = refl; order = refl } };
  both_cleaned = record { first = refl; calls = (record { ends = refl; sent = refl; quiet = refl }, (record { ends = refl; sent = refl; quiet = refl }, (record { ends = refl; sent = refl; quiet = refl }, (record { ends = refl; sent = refl; quiet = refl }, (record { ends = refl; sent = refl; quiet = refl }, tt))))); order = record { first = refl; order = refl } };
  not_cleaned = record { first = refl; calls = (record { ends = refl; sent = refl; quiet = refl }, (record { ends = refl; sent = refl; quiet = refl }, (record { ends = refl; sent = refl; quiet = refl }, (record { ends = refl; sent = refl; quiet = refl }, tt)))); order = record { first = refl; order = refl } };
  renewed_by_reset = record { first = refl; calls = (record { ends = refl; sent = refl; quiet = refl }, (record { ends = refl; sent = refl; quiet = refl }, (record { ends = refl; sent = refl; quiet = refl }, (record { ends = refl; sent = refl; quiet = refl }, tt)))); order = record { first = refl; order = refl } };
  renewed_by_change = record { first = refl; calls = (record { ends = refl; sent = refl; quiet = refl }, (record { ends = refl; sent = refl; quiet = refl }, tt)); order = record { first = refl; order = refl } };
  renewed_by_new = record { first = refl; calls = (record { ends = refl; sent = refl; quiet = refl }, (record { ends = refl; sent = refl; quiet = refl }, (record { ends = refl; sent = refl; quiet = refl }, tt))); order = record { first = refl; order = refl } };
}
