-- Writing a payload one chunk at a time.
use Rattle.std.proofs.Common.{◌≡◌, ℕ, ◌+◌, ◌-◌, ◌*◌, ◌/◌, ◌<◌, ◌≤◌, List, ◌++◌, length, take, drop, sym, ap, ◌∙◌, arith, append_assoc, length-drop}
use Rattle.std.proofs.lemmas.List.{take-append-drop, length-take-le}
use Rattle.my_frame.specs.Chunks.{full_length, chunk, chunks, number_after_payload, next_number}
use Rattle.my_frame.proofs.ChunkLaws.{chunks-short, chunks-full, number_after_payload-short, number_after_payload-full}

-- What was written and what is still to be written are the whole, and there is room for it.
pub record Puts (old dst rest payload : List ℕ) (number next spare : ℕ) : Type 0 where
  pub items : dst ++ chunks rest next ≡ old ++ chunks payload number
  pub number_is : number_after_payload rest next ≡ number_after_payload payload number
  pub room : length rest + 4 * (length rest / full_length + 1) ≤ spare

module _ {old dst rest payload : List ℕ} {number next spare : ℕ} (p : Puts old dst rest payload number next spare) where
  pub puts_full : (later : ℕ) → full_length ≤ length rest → later + (4 + full_length) ≡ spare → Puts old (dst ++ chunk (take full_length rest) next) (drop full_length rest) payload number (next_number next) later
  puts_full later long spent =
      let part = take full_length rest in
      let after = drop full_length rest in
      let full : length part ≡ full_length = length-take-le full_length rest long in
      let whole : part ++ after ≡ rest = take-append-drop full_length rest in
      let room = p.room in
      let left : length after ≡ length rest - full_length = length-drop full_length rest in
      record {
        items =
            append_assoc dst (chunk part next) (chunks after (next_number next))
            ∙ ap (λ x. dst ++ x) (sym (chunks-full part after next full))
            ∙ ap (λ x. dst ++ chunks x next) whole
            ∙ p.items;
        number_is = sym (number_after_payload-full part after next full) ∙ ap (λ x. number_after_payload x next) whole ∙ p.number_is;
        room = omega arith;
      }

  pub puts_last : length rest < full_length → dst ++ chunk rest next ≡ old ++ chunks payload number
  puts_last short = ap (λ x. dst ++ x) (sym (chunks-short rest next short)) ∙ p.items

  pub puts_number : length rest < full_length → next_number next ≡ number_after_payload payload number
  puts_number short = sym (number_after_payload-short rest next short) ∙ p.number_is
