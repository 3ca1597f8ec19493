-- One list of a tape's calls, with all that they passed over.
use Rattle.std.proofs.Common.{◌≡◌, ◌⊎◌, inl, inr, List, [], ◌∷◌, true, false, ◌||◌, Option, Some, None, refl, ap, ◌∙◌}
use Rattle.my_reading.specs.declared.call.Call.{Call}
use Rattle.my_reading.specs.declared.error.ServerError.{ServerError}
use Rattle.my_reading.specs.Calls.{kind_of}
use Rattle.my_reading.specs.Tape.{Span}
use Rattle.my_reading.specs.Told.{Told, ToldRow, ToldEnd, ToldPassed}
use Rattle.history_laws.specs.Errors.{AreHeard, NoneHeard, OneHeard, PassedErrors, NoErrors, MoreErrors, errors_told, with_told}
use Rattle.history_laws.specs.Given.{AreMade, NoCalls, OneCall, IsItem, Passed, NonePassed, MorePassed, with_ending}
use Rattle.history_laws.specs.Groups.{Made, given, given_after}
use Rattle.history_laws.specs.Lawful.{AreTold, NoneTold, OneTold, Noted, NoneNoted, ItemNoted, ErrorNoted}
use Rattle.history_laws.specs.Ended.{ended_after, makes, was_made}
use Rattle.history_laws.specs.Owners.{AreOf, IsTied, OwnsFirst, may_lack, owns_more}

-- a row or an end that was passed over is no error, and needs no exchange
record IsPlain (t : Told) (c : Call) : Type 0 where
  calm : (es : List ServerError) → with_told t es ≡ es
  lacks : may_lack t c ≡ true
  unmade : makes t (kind_of c) ≡ false

item_plain : (t : Told) (c : Call) → IsItem t → IsPlain t c
item_plain (ToldRow row) c i = record { calm = λ es. refl; lacks = refl; unmade = refl }
item_plain ToldEnd c i = record { calm = λ es. refl; lacks = refl; unmade = refl }
item_plain _ c i = absurd i

-- the one list says what each of the two says
pub record Merged (a b : List Made) (m : List Made) : Type 0 where
  pub given_is : given m ≡ given a
  pub errors : errors_told m ≡ errors_told b

merge_passed : (c : Call) (a a' b b' m : List Made) → Merged a b m → Passed c a a' → PassedErrors c b b' → (mid : List Made) × Noted c m mid × Merged a' b' mid
merge_passed c a a' b b' m w NonePassed NoErrors = (m, NoneNoted, w)
merge_passed c a a' b b' m w NonePassed (MoreErrors more e passes q) =
    let v = merge_passed c a a b more m w NonePassed q in
    (record { call = c; what = ToldPassed e } ∷ v.0, ErrorNoted v.0 e passes v.1, record { given_is = v.2.given_is; errors = ap (λ es. e ∷ es) v.2.errors })
merge_passed c a a' b b' m w (MorePassed more t passes item p) q =
    let v = merge_passed c a more b b' m w p q in
    (record { call = c; what = t } ∷ v.0, ItemNoted v.0 t passes item v.1, record { given_is = ap (given_after t (kind_of c)) v.2.given_is; errors = (item_plain t c item).calm (errors_told v.0) ∙ v.2.errors })

merge_ending : (c : Call) (o : Option Told) (a b m : List Made) → Merged a b m → Merged (with_ending c o a) (with_ending c o b) (with_ending c o m)
merge_ending c None a b m w = w
merge_ending c (Some t) a b m w = record { given_is = ap (given_after t (kind_of c)) w.given_is; errors = ap (with_told t) w.errors }

-- what a list of calls is made of
abbrev MadeView : List Made → List Span → List Made → Type 0
MadeView ms [] all = ms ≡ all
MadeView ms (s ∷ ss) all = (mid : List Made) × Passed s.call ms mid × AreMade (with_ending s.call s.ending mid) ss all

made_view : (ms : List Made) (ss : List Span) (all : List Made) → AreMade ms ss all → MadeView ms ss all
made_view ms ss all (NoCalls x) = refl
made_view ms ss all (OneCall x mid y s rest p w) = (mid, p, w)

abbrev HeardView : List Made → List Span → List Made → Type 0
HeardView ms [] all = ms ≡ all
HeardView ms (s ∷ ss) all = (mid : List Made) × PassedErrors s.call ms mid × AreHeard (with_ending s.call s.ending mid) ss all

heard_view : (ms : List Made) (ss : List Span) (all : List Made) → AreHeard ms ss all → HeardView ms ss all
heard_view ms ss all (NoneHeard x) = refl
heard_view ms ss all (OneHeard x mid y s rest p w) = (mid, p, w)

pub merge : (ss : List Span) (a a' b b' m : List Made) → Merged a b m → AreMade a ss a' → AreHeard b ss b' → (all : List Made) × AreTold m ss all × Merged a' b' all
merge [] a a' b b' m w p q = (m, NoneTold m, record { given_is = w.given_is ∙ ap given (made_view a [] a' p); errors = w.errors ∙ ap errors_told (heard_view b [] b' q) })
merge (s ∷ ss) a a' b b' m w p q =
    let x = made_view a (s ∷ ss) a' p in
    let y = heard_view b (s ∷ ss) b' q in
    let v = merge_passed s.call a x.0 b y.0 m w x.1 y.1 in
    let u = merge ss (with_ending s.call s.ending x.0) a' (with_ending s.call s.ending y.0) b' (with_ending s.call s.ending v.0) (merge_ending s.call s.ending x.0 y.0 v.0 v.2) x.2 y.2 in
    (u.0, OneTold m v.0 u.0 s ss v.1 u.1, u.2)

-- what was passed over takes no exchanges
owns_as : (c : Call) (cs : List Call) (R S : List Call → Type 0) → ((ds : List Call) → R ds → S ds) → OwnsFirst c cs R → OwnsFirst c cs S
owns_as c [] R S f o = o
owns_as c (d ∷ cs) R S f o = (o.0, by_rest (owns_as c cs R S f) o.1)
  where
    by_rest : (OwnsFirst c cs R → OwnsFirst c cs S) → R cs ⊎ ((owns_more (kind_of c) ≡ true) × OwnsFirst c cs R) → S cs ⊎ ((owns_more (kind_of c) ≡ true) × OwnsFirst c cs S)
    by_rest go (inl r) = inl (f cs r)
    by_rest go (inr q) = inr (q.0, go q.1)

noted_tied : (c : Call) (ms mid : List Made) → Noted c ms mid → (cs : List Call) → IsTied ms cs → IsTied mid cs
noted_tied c ms mid NoneNoted cs w = w
noted_tied c ms mid (ItemNoted more t passes item n) cs w = inl ((item_plain t c item).lacks, noted_tied c ms more n cs w)
noted_tied c ms mid (ErrorNoted more e passes n) cs w = inl (refl, noted_tied c ms more n cs w)

ending_tied : (c : Call) (o : Option Told) (ms m : List Made) → ((cs : List Call) → IsTied ms cs → IsTied m cs) → (cs : List Call) → IsTied (with_ending c o ms) cs → IsTied (with_ending c o m) cs
ending_tied c None ms m f cs w = f cs w
ending_tied c (Some t) ms m f cs (inl w) = inl (w.0, f cs w.1)
ending_tied c (Some t) ms m f cs (inr o) = inr (owns_as c cs (IsTied ms) (IsTied m) f o)

told_tied : (ss : List Span) (ms m all : List Made) → ((cs : List Call) → IsTied ms cs → IsTied m cs) → AreTold m ss all → (cs : List Call) → IsTied (ended_after ms ss) cs → IsTied all cs
told_tied ss ms m all f (NoneTold x) cs w = f cs w
told_tied ss ms m all f (OneTold x mid y s rest n a) cs w =
    told_tied rest (with_ending s.call s.ending ms) (with_ending s.call s.ending mid) y (ending_tied s.call s.ending ms mid (λ ds v. noted_tied s.call m mid n ds (f ds v))) a cs w

pub told_of : (o : Option Call) (ss : List Span) (all : List Made) → AreTold [] ss all → (cs : List Call) → AreOf o (ended_after [] ss) cs → AreOf o all cs
told_of o ss all a cs (inr w) = inr (told_tied ss [] [] all (λ ds v. v) a cs w)
told_of None ss all a cs (inl w) = absurd w
told_of (Some c) ss all a cs (inl w) = inl (owns_as c cs (IsTied (ended_after [] ss)) (IsTied all) (told_tied ss [] [] all (λ ds v. v) a) w)

-- nor does it make a connection
noted_made : (c : Call) (ms mid : List Made) → Noted c ms mid → was_made mid ≡ was_made ms
noted_made c ms mid NoneNoted = refl
noted_made c ms mid (ItemNoted more t passes item n) = ap (λ b. b || was_made more) (item_plain t c item).unmade ∙ noted_made c ms more n
noted_made c ms mid (ErrorNoted more e passes n) = noted_made c ms more n

ending_made : (c : Call) (o : Option Told) (ms m : List Made) → was_made m ≡ was_made ms → was_made (with_ending c o m) ≡ was_made (with_ending c o ms)
ending_made c None ms m e = e
ending_made c (Some t) ms m e = ap (λ b. makes t (kind_of c) || b) e

told_made : (ss : List Span) (ms m all : List Made) → was_made m ≡ was_made ms → AreTold m ss all → was_made all ≡ was_made (ended_after ms ss)
told_made ss ms m all e (NoneTold x) = e
told_made ss ms m all e (OneTold x mid y s rest n a) =
    told_made rest (with_ending s.call s.ending ms) (with_ending s.call s.ending mid) y (ending_made s.call s.ending ms mid (noted_made s.call m mid n ∙ e)) a

pub all_made : (ss : List Span) (all : List Made) → AreTold [] ss all → was_made all ≡ was_made (ended_after [] ss)
all_made ss all a = told_made ss [] [] all refl a
