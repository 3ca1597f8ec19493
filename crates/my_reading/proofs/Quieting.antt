-- The reply to a statement to prepare tells nothing else of the facts, unless it is an ERR.
use Rattle.std.proofs.Common.{◌≡◌, ℕ, List, [], ◌∷◌, Option, Some, None, ◌⊎◌, inl, inr, refl, ap, ◌∙◌}
use Rattle.my_grammar.specs.declared.spot.Kind.{Kind}
use Rattle.my_grammar.specs.declared.spot.Kind.TheVariants as kinds
use Rattle.my_grammar.specs.declared.spot.Terms.{Terms}
use Rattle.my_grammar.specs.declared.packet.Packet.{Packet}
use Rattle.my_grammar.specs.FitReplies.{IsRefusal}
use Rattle.my_grammar.specs.Prepares.{PreparedHead, Described, Reply, Unanswered, Refused, InParameters, AfterParameters, InFields, AfterFields, Complete, described_packets, head_packet, packets_in_reply}
use Rattle.my_grammar.specs.Sets.{each, at_most_one}
use Rattle.my_grammar.specs.Talk.{Talk, Start, Unwelcome, Greeted, Asked, Replied, Changing, Queried, Preparing, Silent, packets_of, origin}
use Rattle.my_reading.specs.declared.facts.Facts.{Facts}
use Rattle.my_reply.specs.declared.column.Column.{Column}
use Rattle.my_reply.specs.Column.{column_at}
use Rattle.my_reply.specs.declared.replies.PrepareOk.{PrepareOk}
use Rattle.my_reply.specs.Replies.{prepare_ok_at}
use Rattle.my_reading.specs.declared.facts.PreparedReply.{PreparedReply}
use Rattle.my_reading.specs.Facts.{told_after, counted, facts_by, with_field, with_head, with_parameter, with_reply}
use Rattle.my_reading.specs.Quiet.{at_place, TellsNothing}

-- the facts change in the newest reply alone
IsReplied : Facts → Facts → Type 0
IsReplied f new = (reply : PreparedReply) × (new ≡ with_reply reply f)

-- a kind of payload that tells nothing else
IsQuiet : Kind → Type 0
IsQuiet k = (p : List ℕ) (f : Facts) → IsReplied f (told_after k p f)

head_quiet : (o : Option PrepareOk) (f : Facts) → IsReplied f (with_head o f)
unfolding IsReplied
head_quiet None f = (f.reply, refl)
head_quiet (Some ok) f = ((with_head (Some ok) f).reply, refl)

parameter_quiet : (o : Option Column) (f : Facts) → IsReplied f (with_parameter o f)
unfolding IsReplied
parameter_quiet None f = (f.reply, refl)
parameter_quiet (Some c) f = ((with_parameter (Some c) f).reply, refl)

field_quiet : (o : Option Column) (f : Facts) → IsReplied f (with_field o f)
unfolding IsReplied
field_quiet None f = (f.reply, refl)
field_quiet (Some c) f = ((with_field (Some c) f).reply, refl)

none_tells : TellsNothing []
none_tells f = (f.place, f.reply, refl)

one_tells : (k : Kind) (p : List ℕ) (packets : List Packet) → IsQuiet k → TellsNothing packets → TellsNothing (record { kind = k; payload = p } ∷ packets)
unfolding IsQuiet IsReplied
one_tells k p packets quiet older f =
    let w = older f in
    let q = quiet p (facts_by packets f) in
    ((counted (at_place w.0 w.1 f)).place, q.0, ap counted q.1 ∙ ap (λ (g : Facts). counted (with_reply q.0 g)) w.2)

each_tells : (k : Kind) (ps : List (List ℕ)) (packets : List Packet) → IsQuiet k → TellsNothing packets → TellsNothing (each k ps packets)
each_tells k [] packets quiet older = older
each_tells k (p ∷ ps) packets quiet older = one_tells k p (each k ps packets) quiet (each_tells k ps packets quiet older)

close_tells : (close : Option (List ℕ)) (packets : List Packet) → TellsNothing packets → TellsNothing (at_most_one kinds.ColumnsDone close packets)
unfolding IsQuiet IsReplied
close_tells None packets older = older
close_tells (Some p) packets older = one_tells kinds.ColumnsDone p packets (λ q f. (f.reply, refl)) older

parameters_tell : (ps : List (List ℕ)) (h : PreparedHead) → TellsNothing (each kinds.Parameter ps (head_packet h))
unfolding IsQuiet
parameters_tell ps h = each_tells kinds.Parameter ps (head_packet h) (λ q f. parameter_quiet (column_at q) f)
    (one_tells (kinds.Prepared h.params h.columns) h.payload [] (λ q f. head_quiet (prepare_ok_at q) f) none_tells)

fields_tell : (ps : List (List ℕ)) (h : PreparedHead) (w : Described) → TellsNothing (each kinds.Field ps (described_packets kinds.Parameter w (head_packet h)))
unfolding IsQuiet
fields_tell ps h w = each_tells kinds.Field ps _ (λ q f. field_quiet (column_at q) f) (close_tells w.close _ (parameters_tell w.packets h))

reply_tells : (r : Reply) → IsRefusal (packets_in_reply r) ⊎ TellsNothing (packets_in_reply r)
reply_tells Unanswered = inr none_tells
reply_tells (Refused p) = inl (record { payload = p; packets_are = refl })
reply_tells (InParameters h ps left) = inr (parameters_tell ps h)
reply_tells (AfterParameters h ps) = inr (parameters_tell ps h)
reply_tells (InFields h w ps left) = inr (fields_tell ps h w)
reply_tells (AfterFields h w ps) = inr (fields_tell ps h w)
reply_tells (Complete h w v) = inr (close_tells v.close _ (fields_tell v.packets h w))

pub prepare_tells_nothing : (terms : Terms) (c : List ℕ) (t : Talk) → origin t ≡ Preparing terms c Unanswered → IsRefusal (packets_of t) ⊎ TellsNothing (packets_of t)
prepare_tells_nothing terms c (Start login) o = cc
prepare_tells_nothing terms c (Unwelcome login p) o = cc
prepare_tells_nothing terms c (Greeted login p offer chain) o = cc
prepare_tells_nothing terms c (Asked own d) o = cc
prepare_tells_nothing terms c (Replied own d last kind) o = cc
prepare_tells_nothing terms c (Changing own secret stand d chain) o = cc
prepare_tells_nothing terms c (Queried own d sets) o = cc
prepare_tells_nothing terms c (Preparing own d r) o = reply_tells r
prepare_tells_nothing terms c (Silent own d) o = cc
