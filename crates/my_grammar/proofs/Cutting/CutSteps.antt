-- The steps of the program that cuts bytes, beside the reading that the definitions say.
use Rattle.std.proofs.Common.{◌≡◌, ℕ, suc, ◌+◌, ◌<◌, ◌≤◌, List, [], ◌∷◌, ◌++◌, map, length, drop, reverse, Bool, true, false, cond, get_or, refl, sym, ap, ◌∙◌, subst, arith, add-one}
use Rattle.std.proofs.lemmas.List.{append-nil, drop_all, reverse-append}
use Rattle.std.proofs.Math.Seq.{drop-cons}
use Rattle.my_frame.specs.Front.{Front, Waiting, Broken, Whole, front_at}
use Rattle.my_reply.specs.declared.column.Column.{Column}
use Rattle.my_grammar.specs.declared.login.Login.{Login}
use Rattle.my_grammar.specs.declared.spot.Kind.{Kind}
use Rattle.my_grammar.specs.declared.progress.Opening.{Opening}
use Rattle.my_grammar.specs.declared.progress.Opening.TheVariants as openings
use Rattle.my_grammar.specs.declared.progress.Progress.{Progress}
use Rattle.my_grammar.specs.declared.cut.CutRest.TheVariants as rests
use Rattle.my_grammar.specs.declared.cut.Found.{Found}
use Rattle.my_grammar.specs.Contexts.{context_after, is_bad}
use Rattle.my_grammar.specs.Kinds.{kind_there}
use Rattle.my_grammar.specs.Talk.{Talk, Start, Unwelcome, Greeted, Asked, Replied, Changing, Queried, Preparing, Silent, Fits, Server, turns, number_of, client_bytes, packets_of, context_of, described, limit_of, login_in, secret_in}
use Rattle.my_grammar.specs.declared.spot.Context.{Context}
use Rattle.my_grammar.specs.Growth.{grow, replies, number_next, said, described_after, Grows, Reads}
use Rattle.my_grammar.specs.Cut.{Read, Trailing, Cut, front_of, kind_of, read_from, is_idle, is_over, onto, cut, rest_of, rest_in_front}
use Rattle.my_grammar.specs.CutLaws.{StopsAt}
use Rattle.my_grammar.specs.Reading.{Hears, HeardOne, HeardNone, StopsHere}
use Rattle.my_grammar.specs.Progress.{IsAt, IsReadTo, AreAt, IsFound, talk_of, rest_kind, front_rest}
use Rattle.my_grammar.proofs.Cutting.Fronts.{takes_whole}
use Rattle.my_grammar.proofs.Growth.{grows, reads}
use Rattle.my_grammar.proofs.Cutting.{reads_one, stops_reads_none}

-- the limit is in the context too
limit_is : (t : Talk) → (context_of t).terms.limit ≡ limit_of t
limit_is (Start login) = refl
limit_is (Unwelcome login p) = refl
limit_is (Greeted login p offer chain) = refl
limit_is (Asked terms c) = refl
limit_is (Replied terms c last kind) = refl
limit_is (Changing terms secret stand c chain) = refl
limit_is (Queried terms c sets) = refl
limit_is (Preparing terms c r) = refl
limit_is (Silent terms c) = refl

-- An exchange that began so is read up to the rest of the bytes.
pub record ReadSoFar (login : Login) (opening : Opening) (bytes : List ℕ) (p : Progress) (rest : List ℕ) : Type 0 where
  pub talk : Talk
  pub at : IsAt talk p
  pub fits : Fits talk
  pub login_is : login_in login talk ≡ login
  pub reached : read_from (talk_of login opening) bytes ≡ read_from talk rest

opening_fits : (login : Login) (opening : Opening) → Fits (talk_of login opening)
opening_fits login openings.Connect = record { kinds = tt; within = tt }
opening_fits login (openings.Simple terms c) = record { kinds = tt; within = tt }
opening_fits login (openings.Change terms secret stand c) = record { kinds = tt; within = tt }
opening_fits login (openings.Query terms c) = record { kinds = tt; within = tt }
opening_fits login (openings.Execute terms ahead c) = record { kinds = tt; within = tt }
opening_fits login (openings.Prepare terms c) = record { kinds = tt; within = tt }
opening_fits login (openings.Silent terms c) = record { kinds = tt; within = tt }

opening_login : (login : Login) (opening : Opening) → login_in login (talk_of login opening) ≡ login
opening_login login openings.Connect = refl
opening_login login (openings.Simple terms c) = refl
opening_login login (openings.Change terms secret stand c) = refl
opening_login login (openings.Query terms c) = refl
opening_login login (openings.Execute terms ahead c) = refl
opening_login login (openings.Prepare terms c) = refl
opening_login login (openings.Silent terms c) = refl

pub read_none : (login : Login) (opening : Opening) (bytes : List ℕ) (p : Progress) → IsAt (talk_of login opening) p → ReadSoFar login opening bytes p bytes
read_none login opening bytes p at = record {
  talk = talk_of login opening;
  at = at;
  fits = opening_fits login opening;
  login_is = opening_login login opening;
  reached = refl;
}

-- the front that the program sees is the exchange's
front_is : (t : Talk) (p : Progress) (bytes : List ℕ) → IsAt t p → front_at p.number p.context.terms.limit bytes ≡ front_of t bytes
front_is t p bytes at = ap (λ n. front_at n p.context.terms.limit bytes) at.number ∙ ap (λ l. front_at (number_of (turns t)) l bytes) (ap (λ c. c.terms.limit) at.context ∙ limit_is t)

-- a payload more
grown_at : (login : Login) (t : Talk) (k : Kind) (q : List ℕ) (old new : Progress) → IsAt t old → Hears login k q old new → login_in login t ≡ login → Grows t k q → IsAt (grow k t q) new
grown_at login t k q old new at h is g =
    let r : Reads login (secret_in t) k q (turns t) = reads login (secret_in t) k q (turns t) in
    let ts = g.turns_are login ∙ ap (λ l. replies l (secret_in t) k q ++ Server q ∷ turns t) is in
    record {
      context = h.context ∙ ap (λ c. context_after c k) at.context ∙ sym g.context;
      columns = h.columns ∙ ap (λ cs. described_after cs k q) at.columns ∙ sym g.described_is;
      number = h.number ∙ ap (λ s. number_next login s k q old.number) at.secret ∙ ap (λ n. number_next login (secret_in t) k q n) at.number ∙ sym (ap number_of ts ∙ r.number);
      packets = h.packets ∙ ap (λ ps. ps ++ record { kind = k; payload = q } ∷ []) at.packets ∙ sym (ap reverse g.packets_are ∙ reverse-append (record { kind = k; payload = q } ∷ []) (packets_of t));
      sent = h.sent ∙ ap (λ bs. bs ++ said login old.secret k q old.number) at.sent ∙ ap (λ s. client_bytes (turns t) ++ said login s k q old.number) at.secret
          ∙ ap (λ n. client_bytes (turns t) ++ said login (secret_in t) k q n) at.number ∙ sym (ap client_bytes ts ∙ r.client);
      secret = h.secret ∙ at.secret ∙ sym g.secret_is;
    }

pub read_one_more : (login : Login) (opening : Opening) (bytes rest after : List ℕ) (old new : Progress) (len : ℕ) → ReadSoFar login opening bytes old rest → HeardOne login rest old new len → after ≡ drop len rest → ReadSoFar login opening bytes new after
read_one_more login opening bytes rest after old new len w h is =
    let t = w.talk in
    let front : front_of t rest ≡ Whole h.payload h.rest h.next = sym (front_is t old rest w.at) ∙ h.front in
    let kind : kind_there old.context old.columns.items h.payload ≡ kind_of t h.payload = ap (λ c. kind_there c old.columns.items h.payload) w.at.context ∙ ap (λ cs. kind_there (context_of t) cs h.payload) w.at.columns in
    let good : is_bad (kind_of t h.payload) ≡ false = ap is_bad (sym kind) ∙ h.good in
    let bound = (takes_whole (number_of (turns t)) (limit_of t) rest h.payload h.rest h.next front).within in
    let small : length h.payload ≤ limit_of t = omega arith in
    let g = grows t (kind_of t h.payload) h.payload refl good small w.fits in
    let hears : Hears login (kind_of t h.payload) h.payload old new = subst (λ k. Hears login k h.payload old new) kind h.heard in
    record {
      talk = grow (kind_of t h.payload) t h.payload;
      at = grown_at login t (kind_of t h.payload) h.payload old new w.at hears w.login_is g;
      fits = g.fits;
      login_is = g.login_is login ∙ w.login_is;
      reached = w.reached ∙ reads_one t rest h.payload h.rest h.next (kind_of t h.payload) front refl good ∙ ap (λ bs. read_from (grow (kind_of t h.payload) t h.payload) bs) (sym (is ∙ h.rest_is));
    }

stops_at : (t : Talk) (c : Context) (columns : List Column) (x : Front) → c ≡ context_of t → columns ≡ described t → StopsHere c columns x → StopsAt t x
stops_at t c columns Waiting e d s = tt
stops_at t c columns (Broken fault) e d s = tt
stops_at t c columns (Whole p rest next) e d s = ap (λ c. is_bad (kind_there c (described t) p)) (sym e) ∙ ap (λ cs. is_bad (kind_there c cs p)) (sym d) ∙ s

-- nothing more
pub read_all : (login : Login) (opening : Opening) (bytes rest : List ℕ) (old new : Progress) → ReadSoFar login opening bytes old rest → HeardNone rest old new → IsReadTo (read_from (talk_of login opening) bytes) new rest
read_all login opening bytes rest old new w h =
    let t = w.talk in
    let stops : StopsAt t (front_of t rest) = stops_at t old.context old.columns.items (front_of t rest) w.at.context w.at.columns (subst (λ x. StopsHere old.context old.columns.items x) (front_is t old rest w.at) h.stops) in
    let whole : read_from (talk_of login opening) bytes ≡ record { talk = t; rest = rest } = w.reached ∙ stops_reads_none t rest stops in
    let at : IsAt t new = record { context = h.context ∙ w.at.context; columns = h.columns ∙ w.at.columns; number = h.number ∙ w.at.number; packets = h.packets ∙ w.at.packets; sent = h.sent ∙ w.at.sent; secret = h.secret ∙ w.at.secret } in
    subst (λ (r : Read). IsReadTo r new rest) (sym whole) (record { at = at; rest_is = refl })

-- exchanges in front of a cut
abbrev pub onto_all : List Talk → Cut → Cut
onto_all [] c = c
onto_all (t ∷ ts) c = onto t (onto_all ts c)

onto_all-more : (ts : List Talk) (t : Talk) (c : Cut) → onto_all (ts ++ t ∷ []) c ≡ onto_all ts (onto t c)
onto_all-more [] t c = refl
onto_all-more (u ∷ ts) t c = ap (λ c. onto u c) (onto_all-more ts t c)

at_more : (ts : List Talk) (ps : List Progress) (t : Talk) (p : Progress) → AreAt ts ps → IsAt t p → AreAt (ts ++ t ∷ []) (ps ++ p ∷ [])
at_more [] [] t p w at = (at, tt)
at_more [] (q ∷ ps) t p w at = absurd w
at_more (u ∷ ts) [] t p w at = absurd w
at_more (u ∷ ts) (q ∷ ps) t p w at = (w.0, at_more ts ps t p w.1 at)

-- What is cut so far: these exchanges, and what the rest and the further openings make.
pub record CutSoFar (login : Login) (openings : List Opening) (bytes : List ℕ) (ps : List Progress) (left : List Opening) (rest : List ℕ) : Type 0 where
  pub done : List Talk
  pub at : AreAt done ps
  pub reached : cut (map (talk_of login) openings) bytes ≡ onto_all done (cut (map (talk_of login) left) rest)

pub cut_none : (login : Login) (openings : List Opening) (bytes : List ℕ) → CutSoFar login openings bytes [] openings bytes
cut_none login openings bytes = record { done = []; at = tt; reached = refl }

-- one exchange more, which is over
pub cut_one_more : (login : Login) (openings : List Opening) (bytes : List ℕ) (ps : List Progress) (opening : Opening) (left : List Opening) (rest after : List ℕ) (p : Progress) → CutSoFar login openings bytes ps (opening ∷ left) rest → IsReadTo (read_from (talk_of login opening) rest) p after → is_idle p.context.spot ≡ true → CutSoFar login openings bytes (ps ++ p ∷ []) left after
cut_one_more login openings bytes ps opening left rest after p w r over =
    let read = read_from (talk_of login opening) rest in
    let go : List ℕ → Cut = cut (map (talk_of login) left) in
    let is : is_over read.talk ≡ true = ap (λ c. is_idle c.spot) (sym r.at.context) ∙ over in
    record {
      done = w.done ++ read.talk ∷ [];
      at = at_more w.done ps read.talk p w.at r.at;
      reached = w.reached ∙ ap (λ (b : Bool). onto_all w.done (cond b (onto read.talk (go read.rest)) (let c : Cut = record { talks = read.talk ∷ []; rest = rest_of read } in c))) is ∙ sym (onto_all-more w.done read.talk (go read.rest)) ∙ ap (λ bs. onto_all (w.done ++ read.talk ∷ []) (go bs)) (sym r.rest_is);
    }

talks_onto : (ts : List Talk) (c : Cut) → (onto_all ts c).talks ≡ ts ++ c.talks
talks_onto [] c = refl
talks_onto (t ∷ ts) c = ap (λ us. t ∷ us) (talks_onto ts c)

rest_onto : (ts : List Talk) (c : Cut) → (onto_all ts c).rest ≡ c.rest
rest_onto [] c = refl
rest_onto (t ∷ ts) c = rest_onto ts c

-- what was found, of a cut in front of which exchanges are
found_onto : (ts : List Talk) (ps : List Progress) (c d : Cut) (found : Found) → d ≡ onto_all ts c → AreAt (ts ++ c.talks) found.exchanges.items → found.rest ≡ rest_kind c.rest → IsFound d found
found_onto ts ps c d found e at rest = record {
  exchanges = subst (λ us. AreAt us found.exchanges.items) (sym (ap (λ d. d.talks) e ∙ talks_onto ts c)) at;
  rest = rest ∙ ap rest_kind (sym (ap (λ d. d.rest) e ∙ rest_onto ts c));
}

front_rest_is : (t : Talk) (bytes : List ℕ) (x : Front) → front_rest x ≡ rest_kind (rest_in_front bytes x)
front_rest_is t bytes Waiting = refl
front_rest_is t bytes (Broken fault) = refl
front_rest_is t bytes (Whole p rest next) = refl

-- the last exchange, which isn't over
pub cut_at_last : (login : Login) (openings : List Opening) (bytes : List ℕ) (ps : List Progress) (opening : Opening) (left : List Opening) (rest after : List ℕ) (p : Progress) (found : Found) → CutSoFar login openings bytes ps (opening ∷ left) rest → IsReadTo (read_from (talk_of login opening) rest) p after → is_idle p.context.spot ≡ false → found.exchanges.items ≡ ps ++ p ∷ [] → found.rest ≡ front_rest (front_at p.number p.context.terms.limit after) → IsFound (cut (map (talk_of login) openings) bytes) found
cut_at_last login openings bytes ps opening left rest after p found w r over items stands =
    let read = read_from (talk_of login opening) rest in
    let go : List ℕ → Cut = cut (map (talk_of login) left) in
    let is : is_over read.talk ≡ false = ap (λ c. is_idle c.spot) (sym r.at.context) ∙ over in
    let last : Cut = record { talks = read.talk ∷ []; rest = rest_of read } in
    let reached : cut (map (talk_of login) openings) bytes ≡ onto_all w.done last = w.reached ∙ ap (λ (b : Bool). onto_all w.done (cond b (onto read.talk (go read.rest)) last)) is in
    let front : front_at p.number p.context.terms.limit after ≡ front_of read.talk read.rest = front_is read.talk p after r.at ∙ ap (λ bs. front_of read.talk bs) r.rest_is in
    let rest_is : rest_kind (rest_of read) ≡ rest_kind (rest_in_front read.rest (front_of read.talk read.rest)) = ap (λ (b : Bool). rest_kind (cond b (Trailing read.rest) (rest_in_front read.rest (front_of read.talk read.rest)))) is in
    found_onto w.done ps last (cut (map (talk_of login) openings) bytes) found reached (subst (λ qs. AreAt (w.done ++ read.talk ∷ []) qs) (sym items) (at_more w.done ps read.talk p w.at r.at)) (stands ∙ ap front_rest front ∙ front_rest_is read.talk read.rest (front_of read.talk read.rest) ∙ sym rest_is)

-- no exchange more
pub cut_all : (login : Login) (openings : List Opening) (bytes : List ℕ) (rest : List ℕ) (found : Found) → CutSoFar login openings bytes found.exchanges.items [] rest → found.rest ≡ rests.Trailing → IsFound (cut (map (talk_of login) openings) bytes) found
cut_all login openings bytes rest found w following =
    found_onto w.done found.exchanges.items (record { talks = []; rest = Trailing rest }) (cut (map (talk_of login) openings) bytes) found w.reached (subst (λ us. AreAt us found.exchanges.items) (sym (append-nil w.done)) w.at) following

-- the opening at an index, and those after it
pub next_opening : (os : List Opening) (i : ℕ) (o : Opening) → i < length os → o ≡ get_or os i o → drop i os ≡ o ∷ drop (i + 1) os
next_opening os i o within is = drop-cons os i o within ∙ ap (λ x. x ∷ drop (suc i) os) (sym is) ∙ ap (λ k. o ∷ drop k os) (sym (add-one i))

-- what is cut so far, in front of the opening at an index
pub at_index : (login : Login) (os : List Opening) (bytes : List ℕ) (ps : List Progress) (i : ℕ) (o : Opening) (rest : List ℕ) → i < length os → o ≡ get_or os i o → CutSoFar login os bytes ps (drop i os) rest → CutSoFar login os bytes ps (o ∷ drop (i + 1) os) rest
at_index login os bytes ps i o rest within is w = subst (λ left. CutSoFar login os bytes ps left rest) (next_opening os i o within is) w

-- all openings were taken
pub at_end : (login : Login) (os : List Opening) (bytes : List ℕ) (ps : List Progress) (i : ℕ) (rest : List ℕ) → length os ≤ i → CutSoFar login os bytes ps (drop i os) rest → CutSoFar login os bytes ps [] rest
at_end login os bytes ps i rest past w = subst (λ left. CutSoFar login os bytes ps left rest) (drop_all i os past) w
