-- The payload that was found is the one in front.
use Rattle.std.proofs.Common.{◌≡◌, ℕ, suc, ◌+◌, ◌-◌, ◌<◌, ◌≤◌, inl, inr, List, ◌++◌, length, take, drop, None, Some, Ok, sym, subst, ap, ◌∙◌, arith, length-append}
use Rattle.std.proofs.lemmas.List.{drop_at, take_at}
use Rattle.my_frame.specs.declared.scan.Span.{Span}
use Rattle.my_frame.specs.Chunks.{chunks, full_length, next_number, number_after_payload}
use Rattle.my_frame.specs.Front.{Front, Waiting, Broken, Whole, span_of}
use Rattle.my_frame.specs.FrontLaws.{FrontMeans, IsWhole}
use Rattle.my_frame.proofs.ChunkLaws.{BeginsFull, short_or_full, short_spelled, full_spelled}
use Rattle.my_machine.specs.Found.{IsFound}

-- A payload in front, with the room that it takes. One that takes less than a full chunk is after one header.
record InBytes (bytes p rest : List ℕ) : Type 0 where
  header : 4 ≤ length bytes - length rest
  room : length bytes - length rest ≤ length bytes
  after : drop (length bytes - length rest) bytes ≡ rest
  there : length bytes - length rest < 4 + full_length → take (length bytes - length rest - 4) (drop 4 bytes) ≡ p

-- what follows a payload's chunks is found after their length
drop_chunks : (bytes front rest : List ℕ) → bytes ≡ front ++ rest → drop (length bytes - length rest) bytes ≡ rest
drop_chunks bytes front rest e =
    let l = length-append front rest in
    let n : length front ≡ length bytes - length rest = omega (arith, ap length e) in
    ap (λ bs. drop (length bytes - length rest) bs) e ∙ drop_at front rest (length bytes - length rest) n

short_found : (n : ℕ) (bytes p rest : List ℕ) → bytes ≡ chunks p n ++ rest → length p < full_length → InBytes bytes p rest
short_found n bytes p rest spelled short =
    let e = spelled ∙ short_spelled p rest n short in
    let l = length-append p rest in
    let size : length bytes ≡ suc (suc (suc (suc (length (p ++ rest))))) = ap length e in
    record {
      header = omega (arith, size, l);
      room = omega arith;
      after = drop_chunks bytes (chunks p n) rest spelled;
      there = λ less. ap (λ bs. take (length bytes - length rest - 4) (drop 4 bs)) e
          ∙ take_at p rest (length bytes - length rest - 4) (omega (arith, size, l));
    }

full_found : (n : ℕ) (bytes p rest : List ℕ) → bytes ≡ chunks p n ++ rest → BeginsFull p → InBytes bytes p rest
full_found n bytes p rest spelled w =
    let e = spelled ∙ full_spelled p rest n w in
    let more = chunks w.rest (next_number n) in
    let l = length-append w.part (more ++ rest) in
    let k = length-append more rest in
    let full = w.full in
    let size : length bytes ≡ suc (suc (suc (suc (length (w.part ++ (more ++ rest)))))) = ap length e in
    record {
      header = omega (arith, size, l, k, full);
      room = omega arith;
      after = drop_chunks bytes (chunks p n) rest spelled;
      there = λ less. absurd (omega (arith, size, l, k, full, less));
    }

whole_found : (n limit : ℕ) (bytes p rest : List ℕ) (next : ℕ) → IsWhole n limit bytes p rest next → InBytes bytes p rest
whole_found n limit bytes p rest next w =
    elim (short_or_full p) [
      | inl short ↦ short_found n bytes p rest w.spelled short
      | inr full ↦ full_found n bytes p rest w.spelled full
    ]

-- one that takes less than a full chunk is read where it found
pub found_there : (n limit : ℕ) (bytes : List ℕ) (f : Front) (span : Span) → FrontMeans n limit bytes f → span_of bytes f ≡ Ok (Some span) → span.len < 4 + full_length → IsFound n bytes f (record { joined = None; span = span })
found_there n limit bytes Waiting span m e less = cc
found_there n limit bytes (Broken fault) span m e less = cc
found_there n limit bytes (Whole p rest next) span m e less =
    let st = whole_found n limit bytes p rest next m in
    let same : record { len = length bytes - length rest; next = next } ≡ span = cc in
    subst (λ (x : Span). x.len < 4 + full_length → IsFound n bytes (Whole p rest next) (record { joined = None; span = x })) same
    (λ short. record {
      placed = record { header = st.header; room = st.room };
      whole = ap (λ q. Whole q rest next) (sym (st.there short)) ∙ ap (λ r. Whole (take (length bytes - length rest - 4) (drop 4 bytes)) r next) (sym st.after);
      next = m.next_is ∙ ap (λ q. number_after_payload q n) (sym (st.there short));
    }) less
