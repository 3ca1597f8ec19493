-- Of the ERRs that the grammar finds in a tape's bytes callers heard all but perhaps the last.
use Rattle.std.proofs.Common.{◌≡◌, ℕ, suc, zero, List, [], ◌∷◌, ◌++◌, length, Bool, true, false, Option, Some, None, is_some, refl, sym, ap, ◌∙◌, subst, append_assoc}
use Rattle.std.proofs.lemmas.List.{append-nil}
use Rattle.my_reply.specs.declared.err.ErrPacket.{ErrPacket}
use Rattle.my_reply.specs.ErrPacket.{err_at}
use Rattle.my_frame.specs.Front.{Front, Waiting, Broken, Whole}
use Rattle.my_grammar.proofs.Cutting.{stopped_within, stops_reads_none}
use Rattle.my_grammar.proofs.Staying.{over_stops}
use Rattle.my_frame.specs.FrontLaws.{AreBytes}
use Rattle.my_grammar.specs.declared.login.Login.{Login}
use Rattle.my_grammar.specs.declared.spot.Kind.{Kind}
use Rattle.my_grammar.specs.declared.spot.Kind.TheVariants as kinds
use Rattle.my_grammar.specs.Cut.{Read, cut, front_of, is_over, kind_of, read_from, read_front, read_payload, read_within}
use Rattle.my_grammar.specs.Growth.{grow}
use Rattle.my_grammar.specs.Talk.{Talk, context_of}
use Rattle.my_reading.specs.declared.error.ServerError.{ServerError}
use Rattle.my_reading.specs.Course.{is_greeting}
use Rattle.my_reading.specs.Endings.{IsTape}
use Rattle.my_reading.specs.Errors.{server_error}
use Rattle.my_reading.specs.Place.{Exchange, Place, exchanges}
use Rattle.my_reading.specs.Reading.{reading}
use Rattle.my_reading.specs.Tape.{Tape}
use Rattle.history_laws.specs.Errors.{AreHushed, EachIsHeardIn, at_most_one, error_onto, errors_heard, errors_in, errors_of, errors_told, unless_hushed, with_unheard}
use Rattle.history_laws.specs.Found.{in_order, origins}
use Rattle.history_laws.proofs.Blaming.{calm_blames, failed_blames, is_failed}
use Rattle.history_laws.proofs.Finding.{cut_is, talks}
use Rattle.history_laws.proofs.Growing.{failed_over}
use Rattle.history_laws.proofs.Telling.{tape_stood}

-- of what is read on at most one error is new
record Adds (t u : Talk) : Type 0 where
  new : Option ServerError
  errors : errors_in u ≡ at_most_one new ++ errors_in t

none_new : (t : Talk) → Adds t t
none_new t = record { new = None; errors = refl }

one_new : (t u : Talk) (o : Option ErrPacket) → errors_in u ≡ error_onto o (errors_in t) → Adds t u
one_new t u None e = record { new = None; errors = e }
one_new t u (Some x) e = record { new = Some (server_error x); errors = e }

same_new : (t u v : Talk) → errors_in u ≡ errors_in t → Adds u v → Adds t v
same_new t u v e w = record { new = w.new; errors = w.errors ∙ ap (λ es. at_most_one w.new ++ es) e }

later_within : (most : ℕ) (t : Talk) (bytes : List ℕ) → Adds t (read_within most t bytes).talk
unfolding read_within
later_within zero t bytes = none_new t
later_within (suc most) t bytes = by_front (λ u bs. later_within most u bs) (front_of t bytes)
  where
    calm : ((u : Talk) (bs : List ℕ) → Adds u (read_within most u bs).talk) → (p rest : List ℕ) (k : Kind) → is_failed k ≡ false → Adds t (read_within most (grow k t p) rest).talk
    calm go p rest k e = same_new t (grow k t p) _ (calm_blames k t p e) (go (grow k t p) rest)

    by_kind : ((u : Talk) (bs : List ℕ) → Adds u (read_within most u bs).talk) → (p rest : List ℕ) (k : Kind) → kind_of t p ≡ k → Adds t (read_payload t bytes p rest k (read_within most)).talk
    by_kind go p rest kinds.Failed e =
        let u = grow kinds.Failed t p in
        let last : read_within most u rest ≡ record { talk = u; rest = rest } = stopped_within most u rest (over_stops u (front_of u rest) (failed_over t p)) in
        subst (λ (r : Read). Adds t r.talk) (sym last) (one_new t u (err_at (is_greeting (context_of t).spot) p) (failed_blames t p e))
    by_kind go p rest kinds.Bad e = none_new t
    by_kind go p rest k e = calm go p rest k refl

    by_front : ((u : Talk) (bs : List ℕ) → Adds u (read_within most u bs).talk) → (f : Front) → Adds t (read_front t bytes f (read_within most)).talk
    by_front go Waiting = none_new t
    by_front go (Broken fault) = none_new t
    by_front go (Whole p rest next) = by_kind go p rest (kind_of t p) refl

later : (t : Talk) (bytes : List ℕ) → Adds t (read_from t bytes).talk
unfolding read_from
later t bytes = later_within (length bytes) t bytes

append_in_order : (xs ys : List ServerError) → in_order (xs ++ ys) ≡ in_order ys ++ in_order xs
append_in_order [] ys = sym (append-nil (in_order ys))
append_in_order (x ∷ xs) ys = ap (λ es. es ++ x ∷ []) (append_in_order xs ys) ∙ append_assoc (in_order ys) (in_order xs) (x ∷ [])

-- as many
abbrev AreEven : List Bool → List Talk → Type 0
AreEven [] [] = Unit {0}
AreEven (b ∷ bs) (t ∷ ts) = AreEven bs ts
AreEven [] (t ∷ ts) = ⊥
AreEven (b ∷ bs) [] = ⊥

even_push : (bs : List Bool) (ts : List Talk) (b : Bool) (t : Talk) → AreEven bs ts → AreEven (bs ++ b ∷ []) (ts ++ t ∷ [])
even_push [] [] b t e = tt
even_push [] (u ∷ ts) b t e = absurd e
even_push (c ∷ bs) [] b t e = absurd e
even_push (c ∷ bs) (u ∷ ts) b t e = even_push bs ts b t e

are_even : (bs : List Bool) (es : List Exchange) → AreHushed bs es → AreEven (in_order bs) (in_order (talks es))
are_even [] [] w = tt
are_even [] (e ∷ es) w = absurd w
are_even (b ∷ bs) [] w = absurd w
are_even (b ∷ bs) (e ∷ es) w = even_push (in_order bs) (in_order (talks es)) b e.talk (are_even bs es w.1)

heard_after : (bs : List Bool) (ts : List Talk) (b : Bool) (t : Talk) → AreEven bs ts → errors_heard (bs ++ b ∷ []) (ts ++ t ∷ []) ≡ errors_heard bs ts ++ unless_hushed b (in_order (errors_in t))
heard_after [] [] b t e = append-nil (unless_hushed b (in_order (errors_in t)))
heard_after [] (u ∷ ts) b t e = absurd e
heard_after (c ∷ bs) [] b t e = absurd e
heard_after (c ∷ bs) (u ∷ ts) b t e =
    ap (λ es. unless_hushed c (in_order (errors_in u)) ++ es) (heard_after bs ts b t e)
    ∙ sym (append_assoc (unless_hushed c (in_order (errors_in u))) (errors_heard bs ts) (unless_hushed b (in_order (errors_in t))))

hushed_in_order : (b : Bool) (es : List ServerError) → unless_hushed b (in_order es) ≡ in_order (unless_hushed b es)
hushed_in_order true es = refl
hushed_in_order false es = refl

heard_all : (bs : List Bool) (es : List Exchange) → AreHushed bs es → errors_heard (in_order bs) (in_order (talks es)) ≡ in_order (errors_of bs es)
heard_all [] [] w = refl
heard_all [] (e ∷ es) w = absurd w
heard_all (b ∷ bs) [] w = absurd w
heard_all (b ∷ bs) (e ∷ es) w =
    heard_after (in_order bs) (in_order (talks es)) b e.talk (are_even bs es w.1)
    ∙ ap (λ xs. xs ++ unless_hushed b (in_order (errors_in e.talk))) (heard_all bs es w.1)
    ∙ ap (λ xs. in_order (errors_of bs es) ++ xs) (hushed_in_order b (errors_in e.talk))
    ∙ sym (append_in_order (unless_hushed b (errors_in e.talk)) (errors_of bs es))

one_in_order : (o : Option ServerError) → in_order (at_most_one o) ≡ at_most_one o
one_in_order None = refl
one_in_order (Some x) = refl

-- the ERRs in what is found, beside those that callers got
pub record IsHeardAll (found told : List ServerError) : Type 0 where
  pub new : Option ServerError
  pub errors : found ≡ in_order told ++ at_most_one new

module _ (b : Bool) (bs : List Bool) (e : Exchange) (es : List Exchange) (hushed : AreHushed (b ∷ bs) (e ∷ es)) (unread : List ℕ) where
  abbrev found_errors : List ServerError
  found_errors = errors_heard (in_order (b ∷ bs)) (in_order (talks es) ++ (read_from e.talk unread).talk ∷ [])

  found : found_errors ≡ in_order (errors_of bs es) ++ unless_hushed b (in_order (errors_in (read_from e.talk unread).talk))
  found =
      heard_after (in_order bs) (in_order (talks es)) b (read_from e.talk unread).talk (are_even bs es hushed.1)
      ∙ ap (λ xs. xs ++ unless_hushed b (in_order (errors_in (read_from e.talk unread).talk))) (heard_all bs es hushed.1)

  -- what is read on where the exchange's ERR is returned
  found_shown : b ≡ false → found_errors ≡ in_order (errors_of (b ∷ bs) (e ∷ es)) ++ at_most_one (later e.talk unread).new
  found_shown shown =
      let w = later e.talk unread in
      let here : in_order (errors_in (read_from e.talk unread).talk) ≡ in_order (errors_in e.talk) ++ at_most_one w.new =
      ap (λ (xs : List ServerError). in_order xs) w.errors ∙ append_in_order (at_most_one w.new) (errors_in e.talk) ∙ ap (λ xs. in_order (errors_in e.talk) ++ xs) (one_in_order w.new) in
      found
      ∙ ap (λ c. in_order (errors_of bs es) ++ unless_hushed c (in_order (errors_in (read_from e.talk unread).talk))) shown
      ∙ ap (λ xs. in_order (errors_of bs es) ++ xs) here
      ∙ sym (append_assoc (in_order (errors_of bs es)) (in_order (errors_in e.talk)) (at_most_one w.new))
      ∙ ap (λ xs. xs ++ at_most_one w.new) (sym (append_in_order (errors_in e.talk) (errors_of bs es)))
      ∙ ap (λ c. in_order (unless_hushed c (errors_in e.talk) ++ errors_of bs es) ++ at_most_one w.new) (sym shown)

  -- of an exchange that is hushed there is none
  found_hushed : b ≡ true → found_errors ≡ in_order (errors_of (b ∷ bs) (e ∷ es))
  found_hushed is =
      found
      ∙ ap (λ c. in_order (errors_of bs es) ++ unless_hushed c (in_order (errors_in (read_from e.talk unread).talk))) is
      ∙ append-nil (in_order (errors_of bs es))
      ∙ ap (λ c. in_order (unless_hushed c (errors_in e.talk) ++ errors_of bs es)) (sym is)

  -- and of one that is over there is none more
  found_over : is_over e.talk ≡ true → found_errors ≡ in_order (errors_of (b ∷ bs) (e ∷ es))
  found_over over =
      ap (λ (r : Read). errors_heard (in_order (b ∷ bs)) (in_order (talks es) ++ r.talk ∷ [])) (stops_reads_none e.talk unread (over_stops e.talk (front_of e.talk unread) over))
      ∙ heard_all (b ∷ bs) (e ∷ es) hushed

  none_left : (told : List ServerError) (h : Bool) → b ≡ h → errors_of (b ∷ bs) (e ∷ es) ≡ told → IsHeardAll found_errors told
  none_left told true is same = record { new = None; errors = found_hushed is ∙ ap (λ (xs : List ServerError). in_order xs) same ∙ sym (append-nil (in_order told)) }
  none_left told false is same = record { new = (later e.talk unread).new; errors = found_shown is ∙ ap (λ (xs : List ServerError). in_order xs ++ at_most_one (later e.talk unread).new) same }

  one_left : (told : List ServerError) (first : ServerError) (h : Bool) → b ≡ h → (h ≡ false → is_over e.talk ≡ true) → errors_of (b ∷ bs) (e ∷ es) ≡ first ∷ told → IsHeardAll found_errors told
  one_left told first true is over same = record { new = Some first; errors = found_hushed is ∙ ap (λ (xs : List ServerError). in_order xs) same }
  one_left told first false is over same = record { new = Some first; errors = found_over (over refl) ∙ ap (λ (xs : List ServerError). in_order xs) same }

  heard_in : (told : List ServerError) (o : Option ServerError) → (b ≡ false → is_some o ≡ true → is_over e.talk ≡ true) → errors_of (b ∷ bs) (e ∷ es) ≡ with_unheard o told → IsHeardAll found_errors told
  heard_in told None spent same = none_left told b refl same
  heard_in told (Some first) spent same = one_left told first b refl (λ x. spent x refl) same

-- the ERRs of a tape's bytes
pub stood_found : (login : Login) (t : Tape) → AreBytes t.taken → (tape : IsTape login t) → IsHeardAll (errors_heard (in_order ((tape_stood login t tape).hushed ∷ (tape_stood login t tape).olds)) (cut (in_order (origins (exchanges (reading login t).place))) t.taken).talks) (errors_told (tape_stood login t tape).made)
stood_found login t are tape =
    let v = tape_stood login t tape in
    let p : Place = (reading login t).place in
    subst (λ ts. IsHeardAll (errors_heard (in_order (v.hushed ∷ v.olds)) ts) (errors_told v.made)) (sym (cut_is login t are tape))
    (heard_in v.hushed v.olds (record { call = p.call; talk = p.talk }) p.older v.are p.unread (errors_told v.made) v.unheard v.spent v.errors)

pub each_is_heard_in : EachIsHeardIn
each_is_heard_in login t are tape =
    let v = tape_stood login t tape in
    let w = stood_found login t are tape in
    record { made = v.made; of_calls = v.of_calls; hushed = v.hushed ∷ v.olds; are_hushed = v.are; unheard = w.new; errors = w.errors }
