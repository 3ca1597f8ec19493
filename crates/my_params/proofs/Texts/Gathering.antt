-- What was gathered of the front of a text, and what its rest adds.
use Rattle.std.proofs.Common.{◌≡◌, ℕ, suc, ◌+◌, ◌-◌, ◌<◌, List, [], ◌∷◌, ◌++◌, length, Bool, true, false, ◌||◌, Some, None, refl, sym, ap, ◌∙◌, arith, append_assoc}
use Rattle.std.proofs.lemmas.List.{append-nil}
use Rattle.my_params.specs.SqlText.{SqlPiece, piece_at, split_in, split}
use Rattle.my_params.specs.NamedParams.{sent_of, names_of, is_mark, all_sent, all_names, has_mark}

-- What was gathered, with what at most so many pieces of the rest add, is what the text gives.
pub record Gathers (text sent : List ℕ) (names : List (List ℕ)) (marked : Bool) (most : ℕ) (rest : List ℕ) : Type 0 where
  pub sent_is : sent ++ all_sent (split_in most rest) ≡ all_sent (split text)
  pub names_are : names ++ all_names (split_in most rest) ≡ all_names (split text)
  pub marked_is : (marked || has_mark (split_in most rest)) ≡ has_mark (split text)

gathers_text : (text : List ℕ) → Gathers text [] [] false (length text) text
gathers_text text = record { sent_is = refl; names_are = refl; marked_is = refl }

pub gathers_all : (text sent : List ℕ) (names : List (List ℕ)) → sent ≡ [] → names ≡ [] → Gathers text sent names false (length text - 0) text
gathers_all text sent names s n = let k : length text - 0 ≡ length text = omega arith in rw (s, n, k) (gathers_text text)

or_assoc : (a b c : Bool) → ((a || b) || c) ≡ (a || (b || c))
or_assoc true b c = refl
or_assoc false b c = refl

or_false : (a : Bool) → (a || false) ≡ a
or_false true = refl
or_false false = refl

one_less : (n i : ℕ) → i < n → n - i ≡ suc (n - (i + 1))
one_less n i h = omega arith

split_more : (n i : ℕ) (rest after : List ℕ) (p : SqlPiece) → i < n → Some (p, after) ≡ piece_at rest → split_in (n - i) rest ≡ p ∷ split_in (n - (i + 1)) after
split_more n i rest after p h e = let k = one_less n i h in rw (k, ← e) refl

split_none : (n i : ℕ) (rest : List ℕ) → i < n → None ≡ piece_at rest → split_in (n - i) rest ≡ []
split_none n i rest h e = let k = one_less n i h in rw (k, ← e) refl

pub gathers_more : (text sent : List ℕ) (names : List (List ℕ)) (marked : Bool) (n i : ℕ) (rest after : List ℕ) (p : SqlPiece) (sent' : List ℕ) (names' : List (List ℕ)) (marked' : Bool) → i < n → Some (p, after) ≡ piece_at rest → sent' ≡ sent ++ sent_of p → names' ≡ names ++ names_of p → marked' ≡ (marked || is_mark p) → Gathers text sent names marked (n - i) rest → Gathers text sent' names' marked' (n - (i + 1)) after
gathers_more text sent names marked n i rest after p sent' names' marked' h e s t m w =
    let k = split_more n i rest after p h e in
    let more = split_in (n - (i + 1)) after in
    record {
      sent_is = ap (λ (x : List ℕ). x ++ all_sent more) s ∙ append_assoc sent (sent_of p) (all_sent more) ∙ ap (λ (x : List SqlPiece). sent ++ all_sent x) (sym k) ∙ w.sent_is;
      names_are = ap (λ (x : List (List ℕ)). x ++ all_names more) t ∙ append_assoc names (names_of p) (all_names more) ∙ ap (λ (x : List SqlPiece). names ++ all_names x) (sym k) ∙ w.names_are;
      marked_is = ap (λ (x : Bool). x || has_mark more) m ∙ or_assoc marked (is_mark p) (has_mark more) ∙ ap (λ (x : List SqlPiece). marked || has_mark x) (sym k) ∙ w.marked_is;
    }

-- nothing is left to add
pub record GatheredAll (text sent : List ℕ) (names : List (List ℕ)) (marked : Bool) : Type 0 where
  pub sent_is : sent ≡ all_sent (split text)
  pub names_are : names ≡ all_names (split text)
  pub marked_is : marked ≡ has_mark (split text)

gathered_at : (text sent : List ℕ) (names : List (List ℕ)) (marked : Bool) (most : ℕ) (rest : List ℕ) → split_in most rest ≡ [] → Gathers text sent names marked most rest → GatheredAll text sent names marked
gathered_at text sent names marked most rest k w =
    record {
      sent_is = sym (append-nil sent) ∙ ap (λ (x : List SqlPiece). sent ++ all_sent x) (sym k) ∙ w.sent_is;
      names_are = sym (append-nil names) ∙ ap (λ (x : List SqlPiece). names ++ all_names x) (sym k) ∙ w.names_are;
      marked_is = sym (or_false marked) ∙ ap (λ (x : List SqlPiece). marked || has_mark x) (sym k) ∙ w.marked_is;
    }

pub gathered_none : (text sent : List ℕ) (names : List (List ℕ)) (marked : Bool) (n i : ℕ) (rest : List ℕ) → i < n → None ≡ piece_at rest → Gathers text sent names marked (n - i) rest → GatheredAll text sent names marked
gathered_none text sent names marked n i rest h e w = gathered_at text sent names marked (n - i) rest (split_none n i rest h e) w

no_more : (n i : ℕ) (rest : List ℕ) → n ≡ i → split_in (n - i) rest ≡ []
no_more n i rest e = let k : n - i ≡ 0 = omega arith in rw k refl

pub gathered_end : (text sent : List ℕ) (names : List (List ℕ)) (marked : Bool) (n i : ℕ) (rest : List ℕ) → n ≡ i → Gathers text sent names marked (n - i) rest → GatheredAll text sent names marked
gathered_end text sent names marked n i rest e w = gathered_at text sent names marked (n - i) rest (no_more n i rest e) w
