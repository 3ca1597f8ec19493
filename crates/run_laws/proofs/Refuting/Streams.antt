-- The wrong transcripts with a stream: the judge of transcripts, whose finding binds each run, finds a line of each wrong.
use Rattle.std.proofs.Common.{◌≡◌, ℕ, ◌+◌, ◌==◌, List, [], ◌∷◌, map, Option, Some, Bool, true, false, refl, sym, ap, ◌∙◌, subst, arith, if◌then◌else◌}
use Rattle.std.proofs.lemmas.Bool.{false≢true}
use Rattle.my_frame.specs.Writing.{le_bytes, len_bytes, text_bytes, text0_bytes, short_bytes}
use Rattle.my_frame.specs.Front.{front_within, front_from}
use Rattle.my_frame.specs.Chunks.{parts_of, chunks, number_after_payload}
use Rattle.my_reply.specs.Column.{names_at, form_at}
use Rattle.my_reply.specs.OkPacket.{fields_at}
use Rattle.my_handshake.specs.Greeting.{settings_at}
use Rattle.my_handshake.specs.Version.{dotted_at}
use Rattle.my_grammar.specs.declared.login.Login.{Login}
use Rattle.my_grammar.specs.Response.{response}
use Rattle.my_reading.specs.Course.{step, run}
use Rattle.my_reading.specs.Told.{Told, ToldRow}
use Rattle.my_script.specs.declared.step.Step.{Step}
use Rattle.my_script.specs.declared.transcript.StepAnswer.{StepAnswer}
use Rattle.my_run.specs.Headline.{AnswerView, answer_view}
use Rattle.my_run.specs.Tapes.{TapeView}
use Rattle.my_run_judge.specs.Lines.{AreLines}
use Rattle.my_run_judge.specs.declared.made.Made.{Made}
use Rattle.my_run_judge.specs.Made.{nothing_made}
use Rattle.my_run_judge.specs.Seen.{TapeSeen, seen, seen_at}
use Rattle.my_run_judge.specs.Walks.{Walk, start}
use Rattle.run_laws.proofs.Judging.Accepted.{each_run_is_right}
use Rattle.run_laws.proofs.Judging.Whole.{AreShown}
use Rattle.reading_laws.specs.Bytes.{root}
use Rattle.run_laws.specs.WrongStreams.{AreNoStreams, NoRun, kept_answers, kept_steps, kept_tape, other_answers, other_steps, other_tape, over_answers, over_steps, over_tape, read_answers, read_steps, read_tape}

-- the lines as they are shown
lines_shown : (login : Login) (n : ℕ) (t : TapeSeen) (k : ℕ) (m : Made) (w : Walk) (ss : List Step) (bs : List StepAnswer) → AreLines login n t k m w ss bs → AreShown login n t k m w ss (map answer_view bs)
lines_shown login n t k m w [] [] r = r
lines_shown login n t k m w [] (b ∷ bs) r = r
lines_shown login n t k m w (step ∷ ss) [] r = r
lines_shown login n t k m w (step ∷ ss) (b ∷ bs) r = (r.0, lines_shown login n t (k + 1) _ _ ss bs r.1)

-- a tape without its number
abbrev pub seen_view : TapeView → TapeSeen
seen_view v = record { sent = v.sent; taken = v.taken; calls = v.calls }

pub none_runs : (ss : List Step) (vs : List AnswerView) (v : TapeView) → v.number ≡ 0 → (AreShown root 0 (seen_view v) 0 nothing_made (start root 0) ss vs → ⊥) → NoRun ss vs v
none_runs ss vs v zero wrong plans before later bs t answered taped h =
    let lines = (each_run_is_right root plans before later ss bs (t ∷ []) h).each 0 (omega arith) in
    let number : t.number ≡ 0 = ap (λ (x : TapeView). x.number) taped ∙ zero in
    let here : seen_at 0 (t ∷ []) ≡ seen_view v = ap (λ m. if m == 0 then seen t else seen_at 0 []) number ∙ ap seen_view taped in
    wrong (subst (λ (xs : List AnswerView). AreShown root 0 (seen_view v) 0 nothing_made (start root 0) ss xs) answered
    (lines_shown root 0 (seen_view v) 0 nothing_made (start root 0) ss bs (subst (λ (x : TapeSeen). AreLines root 0 x 0 nothing_made (start root 0) ss bs) here lines)))

abbrev pub is_row : Option Told → Bool
is_row (Some (ToldRow row)) = true
is_row _ = false

-- the item's call comes to the set's end
item_ends : AreShown root 0 (seen_view other_tape) 0 nothing_made (start root 0) other_steps other_answers → ⊥
unfolding le_bytes len_bytes text_bytes text0_bytes short_bytes front_within front_from parts_of chunks number_after_payload names_at form_at fields_at settings_at dotted_at response step run
item_ends r = false≢true (sym (ap is_row r.1.1.1.0.1.1.2.1.call.ends))

-- the second stream's call passes over the set's rest
stream_skips : AreShown root 0 (seen_view kept_tape) 0 nothing_made (start root 0) kept_steps kept_answers → ⊥
unfolding le_bytes len_bytes text_bytes text0_bytes short_bytes front_within front_from parts_of chunks number_after_payload names_at form_at fields_at settings_at dotted_at response step run
stream_skips r = r.1.1.1.1.0.1

-- the read passes over it, too
next_skips : AreShown root 0 (seen_view read_tape) 0 nothing_made (start root 0) read_steps read_answers → ⊥
unfolding le_bytes len_bytes text_bytes text0_bytes short_bytes front_within front_from parts_of chunks number_after_payload names_at form_at fields_at settings_at dotted_at response step run
next_skips r = r.1.1.1.1.0.1

-- the stream is there, and its set was read
item_there : AreShown root 0 (seen_view over_tape) 0 nothing_made (start root 0) over_steps over_answers → ⊥
unfolding le_bytes len_bytes text_bytes text0_bytes short_bytes front_within front_from parts_of chunks number_after_payload names_at form_at fields_at settings_at dotted_at response step run
item_there r = r.1.1.1.1.0.1

pub are_no_streams : AreNoStreams
are_no_streams = record {
  other_set = none_runs other_steps other_answers other_tape refl item_ends;
  nothing_passed = none_runs kept_steps kept_answers kept_tape refl stream_skips;
  stream_read = none_runs read_steps read_answers read_tape refl next_skips;
  item_refused = none_runs over_steps over_answers over_tape refl item_there;
}
