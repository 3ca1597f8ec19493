-- What the grammar finds in bytes stays when more bytes come, and when more exchanges may follow.
use Rattle.std.proofs.Common.{◌≡◌, ℕ, suc, zero, ◌≤◌, ◌<◌, List, [], ◌∷◌, ◌++◌, length, Bool, true, false, cond, refl, sym, ap, ◌∙◌, subst, arith}
use Rattle.my_flags.specs.Sets.{deprecates_eof}
use Rattle.my_frame.specs.Front.{Front, Waiting, Broken, Whole}
use Rattle.my_frame.specs.FrontLaws.{FrontGrows}
use Rattle.my_frame.proofs.Growing.{front_grows}
use Rattle.my_reply.specs.declared.column.Column.{Column as ColumnPacket}
use Rattle.my_grammar.specs.declared.spot.RowFormat.{RowFormat}
use Rattle.my_grammar.specs.declared.spot.Spot.{Spot}
use Rattle.my_grammar.specs.declared.spot.Spot.TheVariants as spots
use Rattle.my_grammar.specs.Contexts.{is_bad}
use Rattle.my_grammar.specs.Kinds.{kind_by}
use Rattle.my_grammar.specs.Talk.{Talk, turns, number_of, context_of, described, limit_of}
use Rattle.my_grammar.specs.Growth.{grow}
use Rattle.my_grammar.specs.Cut.{Read, Rest, Trailing, Unfinished, Unfit, Blamed, Cut, front_of, kind_of, read_front, read_within, read_from, rest_in_front, is_idle, is_over, onto, cut_after, cut}
use Rattle.my_grammar.specs.CutLaws.{StopsAt, RestStays, RestGoesOn}
use Rattle.my_grammar.proofs.Cutting.Fronts.{takes_whole}
use Rattle.my_grammar.proofs.Cutting.{reads_one, stops_reads_none}

-- reading goes on from where it stopped
more_within : (f : ℕ) (t : Talk) (bytes more : List ℕ) → length bytes ≤ f → read_from t (bytes ++ more) ≡ read_from (read_within f t bytes).talk ((read_within f t bytes).rest ++ more)
unfolding read_within
more_within zero t bytes more h = refl
more_within (suc f) t bytes more h = by_front (λ u rest g. more_within f u rest more g) (front_of t bytes) refl (front_grows (number_of (turns t)) (limit_of t) bytes more)
  where
    by_kind : ((u : Talk) (rest : List ℕ) → length rest ≤ f → read_from u (rest ++ more) ≡ read_from (read_within f u rest).talk ((read_within f u rest).rest ++ more)) → (p rest : List ℕ) (next : ℕ) → length rest < length bytes → front_of t (bytes ++ more) ≡ Whole p (rest ++ more) next → (bad : Bool) → is_bad (kind_of t p) ≡ bad → read_from t (bytes ++ more) ≡ read_from (cond {A = Read} bad (record { talk = t; rest = bytes }) (read_within f (grow (kind_of t p) t p) rest)).talk ((cond {A = Read} bad (record { talk = t; rest = bytes }) (read_within f (grow (kind_of t p) t p) rest)).rest ++ more)
    by_kind go p rest next short at true bad = refl
    by_kind go p rest next short at false good = reads_one t (bytes ++ more) p (rest ++ more) next (kind_of t p) at refl good ∙ go (grow (kind_of t p) t p) rest (omega (arith, short, h))

    by_front : ((u : Talk) (rest : List ℕ) → length rest ≤ f → read_from u (rest ++ more) ≡ read_from (read_within f u rest).talk ((read_within f u rest).rest ++ more)) → (x : Front) → front_of t bytes ≡ x → FrontGrows more x (front_of t (bytes ++ more)) → read_from t (bytes ++ more) ≡ read_from (read_front t bytes x (read_within f)).talk ((read_front t bytes x (read_within f)).rest ++ more)
    by_front go Waiting e g = refl
    by_front go (Broken fault) e g = refl
    by_front go (Whole p rest next) e g = by_kind go p rest next (takes_whole (number_of (turns t)) (limit_of t) bytes p rest next e).shorter g (is_bad (kind_of t p)) refl

more_from : (t : Talk) (bytes more : List ℕ) → read_from t (bytes ++ more) ≡ read_from (read_from t bytes).talk ((read_from t bytes).rest ++ more)
unfolding read_from
more_from t bytes more = more_within (length bytes) t bytes more (omega arith)

-- and it stopped where nothing could be read
ends_within : (f : ℕ) (t : Talk) (bytes : List ℕ) → length bytes ≤ f → StopsAt (read_within f t bytes).talk (front_of (read_within f t bytes).talk (read_within f t bytes).rest)
unfolding read_within
ends_within zero t bytes h = none (front_of t bytes) refl
  where
    none : (x : Front) → front_of t bytes ≡ x → StopsAt t x
    none Waiting e = tt
    none (Broken fault) e = tt
    none (Whole p rest next) e = absurd (omega (arith, h, (takes_whole (number_of (turns t)) (limit_of t) bytes p rest next e).shorter))
ends_within (suc f) t bytes h = by_front (λ u rest g. ends_within f u rest g) (front_of t bytes) refl
  where
    by_kind : ((u : Talk) (rest : List ℕ) → length rest ≤ f → StopsAt (read_within f u rest).talk (front_of (read_within f u rest).talk (read_within f u rest).rest)) → (p rest : List ℕ) (next : ℕ) → front_of t bytes ≡ Whole p rest next → length rest < length bytes → (bad : Bool) → is_bad (kind_of t p) ≡ bad → StopsAt (cond {A = Read} bad (record { talk = t; rest = bytes }) (read_within f (grow (kind_of t p) t p) rest)).talk (front_of (cond {A = Read} bad (record { talk = t; rest = bytes }) (read_within f (grow (kind_of t p) t p) rest)).talk (cond {A = Read} bad (record { talk = t; rest = bytes }) (read_within f (grow (kind_of t p) t p) rest)).rest)
    by_kind go p rest next at short true bad = subst (StopsAt t) (sym at) bad
    by_kind go p rest next at short false good = go (grow (kind_of t p) t p) rest (omega (arith, short, h))

    by_front : ((u : Talk) (rest : List ℕ) → length rest ≤ f → StopsAt (read_within f u rest).talk (front_of (read_within f u rest).talk (read_within f u rest).rest)) → (x : Front) → front_of t bytes ≡ x → StopsAt (read_front t bytes x (read_within f)).talk (front_of (read_front t bytes x (read_within f)).talk (read_front t bytes x (read_within f)).rest)
    by_front go Waiting e = subst (StopsAt t) (sym e) tt
    by_front go (Broken fault) e = subst (StopsAt t) (sym e) tt
    by_front go (Whole p rest next) e = by_kind go p rest next e (takes_whole (number_of (turns t)) (limit_of t) bytes p rest next e).shorter (is_bad (kind_of t p)) refl

ends_from : (t : Talk) (bytes : List ℕ) → StopsAt (read_from t bytes).talk (front_of (read_from t bytes).talk (read_from t bytes).rest)
unfolding read_from
ends_from t bytes = ends_within (length bytes) t bytes (omega arith)

-- after an exchange that is over nothing may be read
idle_bad : (s : Spot) (rows : RowFormat) (deprecates : Bool) (n : ℕ) (columns : List ColumnPacket) (p : List ℕ) → is_idle s ≡ true → is_bad (kind_by s rows deprecates n columns p) ≡ true
idle_bad spots.Idle rows deprecates n columns p e = refl
idle_bad (spots.Greeting rules) rows deprecates n columns p e = cc
idle_bad (spots.Authentication stand) rows deprecates n columns p e = cc
idle_bad spots.Single rows deprecates n columns p e = cc
idle_bad spots.Head rows deprecates n columns p e = cc
idle_bad spots.Further rows deprecates n columns p e = cc
idle_bad (spots.Columns left) rows deprecates n columns p e = cc
idle_bad spots.ColumnsEnd rows deprecates n columns p e = cc
idle_bad spots.Rows rows deprecates n columns p e = cc
idle_bad spots.Prepare rows deprecates n columns p e = cc
idle_bad (spots.Parameters left fields) rows deprecates n columns p e = cc
idle_bad (spots.ParametersEnd fields) rows deprecates n columns p e = cc
idle_bad (spots.Fields left) rows deprecates n columns p e = cc
idle_bad spots.FieldsEnd rows deprecates n columns p e = cc

pub over_stops : (t : Talk) (x : Front) → is_over t ≡ true → StopsAt t x
over_stops t Waiting e = tt
over_stops t (Broken fault) e = tt
over_stops t (Whole p rest next) e = idle_bad (context_of t).spot (context_of t).rows (deprecates_eof (context_of t).terms.kept) (context_of t).columns (described t) p e

-- the first exchange with more bytes, where it is over, and where it stops at what can't be read
over_more : (t : Talk) (bytes more : List ℕ) → is_over (read_from t bytes).talk ≡ true → read_from t (bytes ++ more) ≡ record { talk = (read_from t bytes).talk; rest = (read_from t bytes).rest ++ more }
over_more t bytes more e = more_from t bytes more ∙ stops_reads_none (read_from t bytes).talk ((read_from t bytes).rest ++ more) (over_stops (read_from t bytes).talk _ e)

abbrev cut_over : (b : Bool) → Read → (List ℕ → Cut) → Cut
cut_over b r go = cond b (onto r.talk (go r.rest)) (record { talks = r.talk ∷ []; rest = cond b (Trailing r.rest) (rest_in_front r.rest (front_of r.talk r.rest)) })

onto_stays : (more : List ℕ) (t : Talk) (ts : List Talk) (x : Rest) (d : Cut) → RestStays more ts x d → RestStays more (t ∷ ts) x (onto t d)
onto_stays more t ts (Trailing bytes) d w = ap (onto t) w
onto_stays more t ts (Unfinished bytes) d w = tt
onto_stays more t ts (Unfit p bytes) d w = ap (onto t) w
onto_stays more t ts (Blamed fault bytes) d w = ap (onto t) w

-- an exchange that isn't over
front_stays : (more : List ℕ) (go : List ℕ → Cut) (r : Read) (q : Read) (x : Front) → front_of r.talk r.rest ≡ x → is_over r.talk ≡ false → StopsAt r.talk x → q ≡ read_from r.talk (r.rest ++ more) → RestStays more (r.talk ∷ []) (rest_in_front r.rest x) (cut_after q go)
front_stays more go r q Waiting e o s is = tt
front_stays more go r q (Broken fault) e o s is =
    let later : front_of r.talk (r.rest ++ more) ≡ Broken fault = subst (λ (x : Front). FrontGrows more x (front_of r.talk (r.rest ++ more))) e (front_grows (number_of (turns r.talk)) (limit_of r.talk) r.rest more) in
    let same : q ≡ record { talk = r.talk; rest = r.rest ++ more } = is ∙ stops_reads_none r.talk (r.rest ++ more) (subst (StopsAt r.talk) (sym later) tt) in
    ap (λ (r : Read). cut_after r go) same ∙ ap (λ (b : Bool). cut_over b (record { talk = r.talk; rest = r.rest ++ more }) go) o ∙ ap (λ (x : Front). record { talks = r.talk ∷ []; rest = rest_in_front (r.rest ++ more) x }) later
front_stays more go r q (Whole p rest next) e o s is =
    let later : front_of r.talk (r.rest ++ more) ≡ Whole p (rest ++ more) next = subst (λ (x : Front). FrontGrows more x (front_of r.talk (r.rest ++ more))) e (front_grows (number_of (turns r.talk)) (limit_of r.talk) r.rest more) in
    let same : q ≡ record { talk = r.talk; rest = r.rest ++ more } = is ∙ stops_reads_none r.talk (r.rest ++ more) (subst (StopsAt r.talk) (sym later) s) in
    ap (λ (r : Read). cut_after r go) same ∙ ap (λ (b : Bool). cut_over b (record { talk = r.talk; rest = r.rest ++ more }) go) o ∙ ap (λ (x : Front). record { talks = r.talk ∷ []; rest = rest_in_front (r.rest ++ more) x }) later

pub cut_stays : (ts : List Talk) (bytes more : List ℕ) → RestStays more (cut ts bytes).talks (cut ts bytes).rest (cut ts (bytes ++ more))
cut_stays [] bytes more = refl
cut_stays (t ∷ ts) bytes more = by_over (λ rest. cut_stays ts rest more) (is_over (read_from t bytes).talk) refl
  where
    by_over : ((rest : List ℕ) → RestStays more (cut ts rest).talks (cut ts rest).rest (cut ts (rest ++ more))) → (b : Bool) → is_over (read_from t bytes).talk ≡ b → RestStays more (cut (t ∷ ts) bytes).talks (cut (t ∷ ts) bytes).rest (cut (t ∷ ts) (bytes ++ more))
    by_over go true e =
        let r = read_from t bytes in
        let here : cut (t ∷ ts) bytes ≡ onto r.talk (cut ts r.rest) = ap (λ (b : Bool). cut_over b r (cut ts)) e in
        let later : cut (t ∷ ts) (bytes ++ more) ≡ onto r.talk (cut ts (r.rest ++ more)) = ap (λ (r : Read). cut_after r (cut ts)) (over_more t bytes more e) ∙ ap (λ (b : Bool). cut_over b (record { talk = r.talk; rest = r.rest ++ more }) (cut ts)) e in
        subst (λ (c : Cut). RestStays more c.talks c.rest (cut (t ∷ ts) (bytes ++ more))) (sym here) (subst (RestStays more (r.talk ∷ (cut ts r.rest).talks) (cut ts r.rest).rest) (sym later) (onto_stays more r.talk (cut ts r.rest).talks (cut ts r.rest).rest (cut ts (r.rest ++ more)) (go r.rest)))
    by_over go false e =
        let r = read_from t bytes in
        let here : cut (t ∷ ts) bytes ≡ record { talks = r.talk ∷ []; rest = rest_in_front r.rest (front_of r.talk r.rest) } = ap (λ (b : Bool). cut_over b r (cut ts)) e in
        subst (λ (c : Cut). RestStays more c.talks c.rest (cut (t ∷ ts) (bytes ++ more))) (sym here) (front_stays more (cut ts) r (read_from t (bytes ++ more)) (front_of r.talk r.rest) refl e (ends_from t bytes) (more_from t bytes more))

-- more exchanges after
onto_goes_on : (us : List Talk) (t : Talk) (ts : List Talk) (x : Rest) (d : Cut) → RestGoesOn us ts x d → RestGoesOn us (t ∷ ts) x (onto t d)
onto_goes_on us t ts (Trailing bytes) d w = ap (onto t) w
onto_goes_on us t ts (Unfinished bytes) d w = ap (onto t) w
onto_goes_on us t ts (Unfit p bytes) d w = ap (onto t) w
onto_goes_on us t ts (Blamed fault bytes) d w = ap (onto t) w

front_goes_on : (us : List Talk) (r : Read) (x : Front) → RestGoesOn us (r.talk ∷ []) (rest_in_front r.rest x) (record { talks = r.talk ∷ []; rest = rest_in_front r.rest x })
front_goes_on us r Waiting = refl
front_goes_on us r (Broken fault) = refl
front_goes_on us r (Whole p rest next) = refl

pub cut_goes_on : (ts us : List Talk) (bytes : List ℕ) → RestGoesOn us (cut ts bytes).talks (cut ts bytes).rest (cut (ts ++ us) bytes)
cut_goes_on [] us bytes = refl
cut_goes_on (t ∷ ts) us bytes = by_over (λ rest. cut_goes_on ts us rest) (is_over (read_from t bytes).talk) refl
  where
    by_over : ((rest : List ℕ) → RestGoesOn us (cut ts rest).talks (cut ts rest).rest (cut (ts ++ us) rest)) → (b : Bool) → is_over (read_from t bytes).talk ≡ b → RestGoesOn us (cut (t ∷ ts) bytes).talks (cut (t ∷ ts) bytes).rest (cut (t ∷ ts ++ us) bytes)
    by_over go true e =
        let r = read_from t bytes in
        let here : cut (t ∷ ts) bytes ≡ onto r.talk (cut ts r.rest) = ap (λ (b : Bool). cut_over b r (cut ts)) e in
        let later : cut (t ∷ ts ++ us) bytes ≡ onto r.talk (cut (ts ++ us) r.rest) = ap (λ (b : Bool). cut_over b r (cut (ts ++ us))) e in
        subst (λ (c : Cut). RestGoesOn us c.talks c.rest (cut (t ∷ ts ++ us) bytes)) (sym here) (subst (RestGoesOn us (r.talk ∷ (cut ts r.rest).talks) (cut ts r.rest).rest) (sym later) (onto_goes_on us r.talk (cut ts r.rest).talks (cut ts r.rest).rest (cut (ts ++ us) r.rest) (go r.rest)))
    by_over go false e =
        let r = read_from t bytes in
        let here : cut (t ∷ ts) bytes ≡ record { talks = r.talk ∷ []; rest = rest_in_front r.rest (front_of r.talk r.rest) } = ap (λ (b : Bool). cut_over b r (cut ts)) e in
        let later : cut (t ∷ ts ++ us) bytes ≡ record { talks = r.talk ∷ []; rest = rest_in_front r.rest (front_of r.talk r.rest) } = ap (λ (b : Bool). cut_over b r (cut (ts ++ us))) e in
        subst (λ (c : Cut). RestGoesOn us c.talks c.rest (cut (t ∷ ts ++ us) bytes)) (sym here) (subst (RestGoesOn us (r.talk ∷ []) (rest_in_front r.rest (front_of r.talk r.rest))) (sym later) (front_goes_on us r (front_of r.talk r.rest)))
