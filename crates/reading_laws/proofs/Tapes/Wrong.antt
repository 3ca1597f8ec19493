-- The wrong tapes: each differs from its reading.
use Rattle.std.proofs.Common.{◌≡◌, ℕ, ◌+◌, List, [], ◌∷◌, Option, Some, None, true, false, refl, ap, arith}
use Rattle.std.proofs.lemmas.Bool.{false≢true}
use Rattle.my_value.specs.declared.value.Value.{Value}
use Rattle.my_value.specs.declared.value.Value.TheVariants.{Bytes}
use Rattle.my_grammar.specs.declared.login.Login.{Login}
use Rattle.my_reading.specs.declared.error.Error.{Error}
use Rattle.my_reading.specs.declared.error.Error.TheVariants as errors
use Rattle.my_reading.specs.declared.error.IoError.{IoError}
use Rattle.my_reading.specs.declared.error.IoError.TheVariants as ios
use Rattle.my_reading.specs.declared.error.IoKind.{IoKind}
use Rattle.my_reading.specs.declared.error.IoKind.TheVariants as kinds
use Rattle.my_reading.specs.Endings.{IsCut, IsOpen, IsCancelled, IsLinkFailure, IsLinkEnd, cancelling}
use Rattle.my_reading.specs.Reading.{ReadCall}
use Rattle.my_reading.specs.Told.{Told, ToldReady, ToldRow, ToldEnd, ToldNone, ToldStatement, ToldFlag, ToldError, ToldPassed, Dropped}
use Rattle.reading_laws.specs.WrongTapes.{AreWrong}
use Rattle.my_frame.specs.Writing.{le_bytes, len_bytes, text_bytes, text0_bytes, short_bytes}
use Rattle.my_frame.specs.Front.{front_within, front_from}
use Rattle.my_frame.specs.Chunks.{parts_of, chunks, number_after_payload}
use Rattle.my_command.specs.Client.Statement.{null_bitmap}
use Rattle.my_reply.specs.Column.{names_at, form_at}
use Rattle.my_reply.specs.Replies.{prepare_ok_at}
use Rattle.my_reply.specs.OkPacket.{fields_at}
use Rattle.my_handshake.specs.Greeting.{settings_at}
use Rattle.my_handshake.specs.Version.{dotted_at}
use Rattle.my_grammar.specs.Response.{response}
use Rattle.my_auth.specs.Scrambles.{native_scramble}
use Rattle.sha1.specs.Sha1.{first_words, schedule, rounds, compress, hash_after, digest_bytes, sha1}
use Rattle.my_reading.specs.Course.{step, run}
use Rattle.my_reading.specs.Reading.{read_calls, reading}

-- a number for each ending
kind_mark : IoKind → ℕ
kind_mark kinds.Link = 11
kind_mark kinds.Dial = 12
kind_mark kinds.UnexpectedEof = 13
kind_mark kinds.InvalidData = 14

io_mark : IoError → ℕ
io_mark (ios.Io fault) = kind_mark fault.kind
io_mark (ios.Codec fault) = 15

error_mark : Error → ℕ
error_mark (errors.Driver e) = 16
error_mark (errors.Io e) = io_mark e
error_mark (errors.Server e) = 30 + e.code
error_mark (errors.Url e) = 18
error_mark (errors.Other e) = 19
error_mark errors.NoMemory = 20

byte : Value → ℕ
byte (Bytes (b ∷ bytes)) = b
byte v = 0

cell : List Value → ℕ
cell [] = 0
cell (v ∷ vs) = byte v

mark : Option Told → ℕ
mark None = 1
mark (Some ToldReady) = 2
mark (Some ToldEnd) = 3
mark (Some ToldNone) = 4
mark (Some (Dropped true)) = 5
mark (Some (Dropped false)) = 6
mark (Some (ToldFlag true)) = 7
mark (Some (ToldFlag false)) = 8
mark (Some (ToldError e)) = error_mark e
mark (Some (ToldPassed e)) = 9
mark (Some (ToldRow row)) = cell row.cells
mark (Some (ToldStatement statement)) = 21 + statement.inner.num_params

differs : (x y : Option Told) → (mark x ≡ mark y → ⊥) → x ≡ y → ⊥
differs x y apart e = apart (ap mark e)

-- an ending that none of a call has which owes or awaits bytes
not_cut : (login : Login) (c : ReadCall) → (mark c.span.ending ≡ 1 → ⊥) → (mark c.span.ending ≡ mark (cancelling c) → ⊥) → (mark c.span.ending ≡ 11 → ⊥) → (mark c.span.ending ≡ 13 → ⊥) → IsCut login c → ⊥
unfolding mark error_mark io_mark kind_mark
not_cut login c a b d e (IsOpen x) = a (ap mark x)
not_cut login c a b d e (IsCancelled x) = b (ap mark x)
not_cut login c a b d e (IsLinkFailure x) = d (ap mark x)
not_cut login c a b d e (IsLinkEnd y x) = e (ap mark x)

pub are_wrong : AreWrong
unfolding le_bytes len_bytes text_bytes text0_bytes short_bytes front_within front_from parts_of chunks number_after_payload null_bitmap names_at form_at prepare_ok_at fields_at settings_at dotted_at response step run read_calls reading native_scramble first_words schedule rounds compress hash_after digest_bytes sha1 mark error_mark io_mark kind_mark cell byte
are_wrong = record {
  other_cells = λ w. differs _ _ (λ e. absurd (omega arith)) w.calls.1.1.0.ends;
  invented_row = λ w. differs _ _ (λ e. absurd (omega arith)) w.calls.1.0.ends;
  early_end = λ w. differs _ _ (λ e. absurd (omega arith)) w.calls.1.1.0.ends;
  early_none = λ w. differs _ _ (λ e. absurd (omega arith)) w.calls.1.1.0.ends;
  row_again = λ w. not_cut _ _ (λ e. absurd (omega arith)) (λ e. absurd (omega arith)) (λ e. absurd (omega arith)) (λ e. absurd (omega arith)) w.calls.1.1.1.0.ends;
  pending_answer = λ w. differs _ _ (λ e. absurd (omega arith)) w.calls.1.1.0.ends;
  querying_quit = λ w. false≢true w.calls.1.0.sent;
  silent_quit = λ w. not_cut _ _ (λ e. absurd (omega arith)) (λ e. absurd (omega arith)) (λ e. absurd (omega arith)) (λ e. absurd (omega arith)) w.calls.1.0.ends;
  second_quit = λ w. false≢true w.calls.1.1.0.quiet;
  other_command = λ w. false≢true w.calls.1.0.sent;
  command_after_error = λ w. false≢true w.calls.1.1.0.sent;
  early_ready = λ w. not_cut _ _ (λ e. absurd (omega arith)) (λ e. absurd (omega arith)) (λ e. absurd (omega arith)) (λ e. absurd (omega arith)) w.calls.1.0.ends;
  idle_drop = λ w. not_cut _ _ (λ e. absurd (omega arith)) (λ e. absurd (omega arith)) (λ e. absurd (omega arith)) (λ e. absurd (omega arith)) w.calls.1.1.0.ends;
  late_link_fault = λ w. differs _ _ (λ e. absurd (omega arith)) w.calls.1.1.0.ends;
  late_link_end = λ w. differs _ _ (λ e. absurd (omega arith)) w.calls.1.1.0.ends;
  invented_fault = λ w. differs _ _ (λ e. absurd (omega arith)) w.calls.1.1.0.ends;
  lost_error = λ w. differs _ _ (λ e. absurd (omega arith)) w.calls.1.1.0.ends;
  open_cancel = λ w. not_cut _ _ (λ e. absurd (omega arith)) (λ e. absurd (omega arith)) (λ e. absurd (omega arith)) (λ e. absurd (omega arith)) w.calls.1.1.0.ends;
  cancelled_query = λ w. not_cut _ _ (λ e. absurd (omega arith)) (λ e. absurd (omega arith)) (λ e. absurd (omega arith)) (λ e. absurd (omega arith)) w.calls.1.1.1.0.ends;
  invented_set = λ w. differs _ _ (λ e. absurd (omega arith)) w.calls.1.0.ends;
  lost_set = λ w. differs _ _ (λ e. absurd (omega arith)) w.calls.1.1.0.ends;
  idle_skip = λ w. not_cut _ _ (λ e. absurd (omega arith)) (λ e. absurd (omega arith)) (λ e. absurd (omega arith)) (λ e. absurd (omega arith)) w.calls.1.1.1.0.ends;
  skipped_row = λ w. differs _ _ (λ e. absurd (omega arith)) w.calls.1.1.1.1.0.ends;
  skipped_on = λ w. differs _ _ (λ e. absurd (omega arith)) w.calls.1.1.1.1.0.ends;
  half_set_up = λ w. not_cut _ _ (λ e. absurd (omega arith)) (λ e. absurd (omega arith)) (λ e. absurd (omega arith)) (λ e. absurd (omega arith)) w.calls.0.ends;
  unconnected = λ w. false≢true w.first;
  prepared_again = λ w. false≢true w.calls.1.1.0.sent;
  other_closed = λ w. false≢true w.calls.1.1.0.sent;
  cached_id = λ w. differs _ _ (λ e. absurd (omega arith)) w.calls.1.1.0.ends;
  other_number = λ w. differs _ _ (λ e. absurd (omega arith)) w.calls.1.0.ends;
  text_row = λ w. differs _ _ (λ e. absurd (omega arith)) w.calls.1.1.1.0.ends;
  unfitting_values = λ w. false≢true w.calls.1.1.0.sent;
  half_batch = λ w. not_cut _ _ (λ e. absurd (omega arith)) (λ e. absurd (omega arith)) (λ e. absurd (omega arith)) (λ e. absurd (omega arith)) w.calls.1.1.0.ends;
  unread_batch = λ w. not_cut _ _ (λ e. absurd (omega arith)) (λ e. absurd (omega arith)) (λ e. absurd (omega arith)) (λ e. absurd (omega arith)) w.calls.1.1.0.ends;
  batch_with_end = λ w. differs _ _ (λ e. absurd (omega arith)) w.calls.1.1.1.0.ends;
  silent_close = λ w. not_cut _ _ (λ e. absurd (omega arith)) (λ e. absurd (omega arith)) (λ e. absurd (omega arith)) (λ e. absurd (omega arith)) w.calls.1.0.ends;
  closing_text = λ w. differs _ _ (λ e. absurd (omega arith)) w.calls.1.1.0.ends;
  silent_reset = λ w. not_cut _ _ (λ e. absurd (omega arith)) (λ e. absurd (omega arith)) (λ e. absurd (omega arith)) (λ e. absurd (omega arith)) w.calls.1.0.ends;
  early_reset = λ w. not_cut _ _ (λ e. absurd (omega arith)) (λ e. absurd (omega arith)) (λ e. absurd (omega arith)) (λ e. absurd (omega arith)) w.calls.1.0.ends;
  idle_reset = λ w. not_cut _ _ (λ e. absurd (omega arith)) (λ e. absurd (omega arith)) (λ e. absurd (omega arith)) (λ e. absurd (omega arith)) w.calls.1.0.ends;
  other_order = λ w. false≢true w.calls.1.0.sent;
  half_reset = λ w. not_cut _ _ (λ e. absurd (omega arith)) (λ e. absurd (omega arith)) (λ e. absurd (omega arith)) (λ e. absurd (omega arith)) w.calls.1.0.ends;
  kept_over_reset = λ w. not_cut _ _ (λ e. absurd (omega arith)) (λ e. absurd (omega arith)) (λ e. absurd (omega arith)) (λ e. absurd (omega arith)) w.calls.1.1.1.0.ends;
  not_undone = λ w. false≢true w.calls.1.1.1.0.sent;
  undone_twice = λ w. false≢true w.calls.1.1.1.1.0.sent;
  undone_by_error = λ w. false≢true w.calls.1.1.1.1.0.sent;
  undone_early = λ w. false≢true w.calls.1.1.0.sent;
  begun_twice = λ w. differs _ _ (λ e. absurd (omega arith)) w.calls.1.1.0.ends;
  never_nested = λ w. not_cut _ _ (λ e. absurd (omega arith)) (λ e. absurd (omega arith)) (λ e. absurd (omega arith)) (λ e. absurd (omega arith)) w.calls.1.0.ends;
  closing_refusal = λ w. differs _ _ (λ e. absurd (omega arith)) w.calls.1.1.1.0.ends;
  late_level = λ w. false≢true w.calls.1.0.sent;
  swapped_texts = λ w. false≢true w.calls.1.0.sent;
  told_old_server = λ w. differs _ _ (λ e. absurd (omega arith)) w.calls.1.0.ends;
  early_begin = λ w. not_cut _ _ (λ e. absurd (omega arith)) (λ e. absurd (omega arith)) (λ e. absurd (omega arith)) (λ e. absurd (omega arith)) w.calls.1.0.ends;
  silent_rollback = λ w. not_cut _ _ (λ e. absurd (omega arith)) (λ e. absurd (omega arith)) (λ e. absurd (omega arith)) (λ e. absurd (omega arith)) w.calls.1.1.0.ends;
  committed_by_error = λ w. not_cut _ _ (λ e. absurd (omega arith)) (λ e. absurd (omega arith)) (λ e. absurd (omega arith)) (λ e. absurd (omega arith)) w.calls.1.1.0.ends;
  not_rolled_back = λ w. not_cut _ _ (λ e. absurd (omega arith)) (λ e. absurd (omega arith)) (λ e. absurd (omega arith)) (λ e. absurd (omega arith)) w.calls.1.1.0.ends;
  early_refusal = λ w. not_cut _ _ (λ e. absurd (omega arith)) (λ e. absurd (omega arith)) (λ e. absurd (omega arith)) (λ e. absurd (omega arith)) w.calls.1.1.0.ends;
  second_refusal = λ w. differs _ _ (λ e. absurd (omega arith)) w.calls.1.1.0.ends;
  undone_commit = λ w. false≢true w.calls.1.1.0.sent;
  silent_commit = λ w. not_cut _ _ (λ e. absurd (omega arith)) (λ e. absurd (omega arith)) (λ e. absurd (omega arith)) (λ e. absurd (omega arith)) w.calls.1.1.0.ends;
  old_user = λ w. false≢true w.calls.1.0.sent;
  early_change = λ w. not_cut _ _ (λ e. absurd (omega arith)) (λ e. absurd (omega arith)) (λ e. absurd (omega arith)) (λ e. absurd (omega arith)) w.calls.1.0.ends;
  changed_by_error = λ w. differs _ _ (λ e. absurd (omega arith)) w.calls.1.0.ends;
  kept_over_change = λ w. not_cut _ _ (λ e. absurd (omega arith)) (λ e. absurd (omega arith)) (λ e. absurd (omega arith)) (λ e. absurd (omega arith)) w.calls.1.1.1.0.ends;
  not_set_up = λ w. not_cut _ _ (λ e. absurd (omega arith)) (λ e. absurd (omega arith)) (λ e. absurd (omega arith)) (λ e. absurd (omega arith)) w.calls.1.0.ends;
  other_nonce = λ w. false≢true w.calls.1.0.sent;
  error_told = λ w. differs _ _ (λ e. absurd (omega arith)) w.calls.1.1.0.ends;
  still_in_transaction = λ w. not_cut _ _ (λ e. absurd (omega arith)) (λ e. absurd (omega arith)) (λ e. absurd (omega arith)) (λ e. absurd (omega arith)) w.calls.1.1.0.ends;
  clean_by_error = λ w. differs _ _ (λ e. absurd (omega arith)) w.calls.1.1.0.ends;
  reset_of_old = λ w. false≢true w.calls.1.0.sent;
  changed_not_reset = λ w. false≢true w.calls.1.0.sent;
  renewed_by_old = λ w. false≢true w.calls.1.1.0.sent;
  renewed_by_older = λ w. false≢true w.calls.1.1.1.1.0.sent;
  early_renewal = λ w. not_cut _ _ (λ e. absurd (omega arith)) (λ e. absurd (omega arith)) (λ e. absurd (omega arith)) (λ e. absurd (omega arith)) w.calls.1.0.ends;
  kept_over_renewal = λ w. not_cut _ _ (λ e. absurd (omega arith)) (λ e. absurd (omega arith)) (λ e. absurd (omega arith)) (λ e. absurd (omega arith)) w.calls.1.1.1.0.ends;
  byte_before = record { first = refl; calls = (record { ends = refl; sent = refl; quiet = refl }, tt); wrong = λ w. false≢true w.order.first };
  answer_twice = record { first = refl; calls = (record { ends = refl; sent = refl; quiet = refl }, (record { ends = refl; sent = refl; quiet = refl }, (record { ends = refl; sent = refl; quiet = refl }, (record { ends = refl; sent = refl; quiet = refl }, tt)))); wrong = λ w. false≢true w.order.order };
  open_before = record { first = refl; calls = (record { ends = refl; sent = refl; quiet = refl }, (record { ends = refl; sent = refl; quiet = refl }, (record { ends = IsOpen refl; sent = refl; quiet = refl }, (record { ends = refl; sent = refl; quiet = refl }, tt)))); wrong = λ w. false≢true w.order.order };
  beyond_end = record { first = refl; calls = (record { ends = refl; sent = refl; quiet = refl }, (record { ends = refl; sent = refl; quiet = refl }, tt)); wrong = λ w. false≢true w.order.order };
  closing_ping = λ w. not_cut _ _ (λ e. absurd (omega arith)) (λ e. absurd (omega arith)) (λ e. absurd (omega arith)) (λ e. absurd (omega arith)) w.calls.1.1.0.ends;
  empty_end = λ w. differs _ _ (λ e. absurd (omega arith)) w.calls.1.1.0.ends;
  evicted_open = λ w. not_cut _ _ (λ e. absurd (omega arith)) (λ e. absurd (omega arith)) (λ e. absurd (omega arith)) (λ e. absurd (omega arith)) w.calls.1.1.0.ends;
  kept_over_close = λ w. not_cut _ _ (λ e. absurd (omega arith)) (λ e. absurd (omega arith)) (λ e. absurd (omega arith)) (λ e. absurd (omega arith)) w.calls.1.1.1.0.ends;
  bytes_alone = record { first = refl; calls = tt; wrong = λ w. false≢true w.order.first };
}
