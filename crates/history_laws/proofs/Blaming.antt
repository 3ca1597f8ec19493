-- What a payload more does to the server's errors.
use Rattle.std.proofs.Common.{◌≡◌, ℕ, List, [], ◌∷◌, ◌==◌, Bool, true, false, cond, leb, ◌-◌, refl, sym, ap, ◌∙◌, ◌++◌, Option, Some, None}
use Rattle.my_flags.specs.declared.flags.StatusFlags.{StatusFlags}
use Rattle.my_flags.specs.Sets.{deprecates_eof, has_more_results}
use Rattle.my_auth.specs.declared.chain.AuthStand.{AuthStand}
use Rattle.my_reply.specs.declared.err.ErrPacket.{ErrPacket}
use Rattle.my_reply.specs.ErrPacket.{err_at}
use Rattle.my_grammar.specs.declared.login.Login.{Login}
use Rattle.my_grammar.specs.declared.packet.Packet.{Packet}
use Rattle.my_grammar.specs.declared.spot.Kind.{Kind}
use Rattle.my_grammar.specs.declared.spot.Kind.TheVariants as kinds
use Rattle.my_grammar.specs.declared.spot.Spot.TheVariants as spots
use Rattle.my_grammar.specs.Cut.{kind_of}
use Rattle.my_grammar.specs.Growth.{grow}
use Rattle.my_grammar.specs.declared.spot.RowFormat.TheVariants.{Text}
use Rattle.my_grammar.specs.Kinds.{kind_by}
use Rattle.my_grammar.specs.Prepares.{PreparedHead, Described, Reply, Unanswered, Refused, InParameters, AfterParameters, InFields, AfterFields, Complete, spot_in_reply, open_part, closed_part, with_parameters, with_head, with_parameter, with_field, with_part_end, grow_reply}
use Rattle.my_grammar.specs.Sets.{SetHead, Sets, NoSets, Lone, Heading, Headed, Begun, Ended, grow_sets, with_column, with_column_of, with_close, with_row, with_end, spot_in}
use Rattle.my_grammar.specs.Sets as sets
use Rattle.my_grammar.specs.Talk.{Talk, Start, Greeted, Asked, Queried, Preparing, context_of, Changing, chain_spot, greeted_stand, stand_in}
use Rattle.my_reading.specs.Course.{is_greeting}
use Rattle.history_laws.proofs.Shaping.{chain_shook}
use Rattle.history_laws.specs.Errors.{error_onto, error_of, errors_in_sets, errors_in_reply, errors_in, errors_in_chain}

abbrev pub is_failed : Kind → Bool
is_failed kinds.Failed = true
is_failed k = false

column_blames_if : (d last : Bool) (older : Sets) (head : SetHead) (left : ℕ) (p : List ℕ) → errors_in_sets (cond last (cond d (Begun older (with_column_of head p) []) (Headed older (with_column_of head p))) (Heading older (with_column_of head p) left)) ≡ errors_in_sets older
column_blames_if true true older head left p = refl
column_blames_if false true older head left p = refl
column_blames_if d false older head left p = refl

column_blames : (d : Bool) (x : Sets) (p : List ℕ) → errors_in_sets (with_column d x p) ≡ errors_in_sets x
column_blames d (Heading older head left) p = column_blames_if d (leb left 1) older head (left - 1) p
column_blames d _ p = refl

close_blames : (x : Sets) (p : List ℕ) → errors_in_sets (with_close x p) ≡ errors_in_sets x
close_blames (NoSets asking) p = refl
close_blames _ p = refl

row_blames : (x : Sets) (p : List ℕ) → errors_in_sets (with_row x p) ≡ errors_in_sets x
row_blames (NoSets asking) p = refl
row_blames _ p = refl

end_blames : (x : Sets) (p : List ℕ) (status : StatusFlags) → errors_in_sets (with_end x p status) ≡ errors_in_sets x
end_blames (NoSets asking) p status = refl
end_blames _ p status = refl

sets_blame : (k : Kind) (d : Bool) (x : Sets) (p : List ℕ) → is_failed k ≡ false → errors_in_sets (grow_sets d k x p) ≡ errors_in_sets x
sets_blame kinds.Failed d x p e = cc
sets_blame kinds.Column d x p e = column_blames d x p
sets_blame kinds.ColumnsDone d x p e = close_blames x p
sets_blame kinds.Row d x p e = row_blames x p
sets_blame (kinds.End status) d x p e = end_blames x p status
sets_blame _ d x p e = refl

one_blames : (k : Kind) (p : List ℕ) → is_failed k ≡ false → error_of k p ≡ []
one_blames kinds.Failed p e = cc
one_blames _ p e = refl

start_blames : (k : Kind) (login : Login) (p : List ℕ) → is_failed k ≡ false → errors_in (grow k (Start login) p) ≡ []
start_blames kinds.Failed login p e = cc
start_blames _ login p e = refl

-- of the reply to a statement to prepare
parameters_blame : (none : Bool) (h : PreparedHead) (w : Described) → errors_in_reply (cond none (Complete h w (open_part [])) (InFields h w [] h.columns)) ≡ []
parameters_blame true h w = refl
parameters_blame false h w = refl

head_blames : (r : Reply) (h : PreparedHead) → errors_in_reply (with_head r h) ≡ errors_in_reply r
head_blames Unanswered h = by_none (h.params == 0)
  where
    by_none : (t : Bool) → errors_in_reply (cond t (with_parameters h (open_part [])) (InParameters h [] h.params)) ≡ []
    by_none true = parameters_blame (h.columns == 0) h (open_part [])
    by_none false = refl
head_blames _ h = refl

parameter_blames : (d : Bool) (r : Reply) (p : List ℕ) → errors_in_reply (with_parameter d r p) ≡ errors_in_reply r
parameter_blames d (InParameters head ps left) p = by_last (leb left 1) d
  where
    by_last : (t d : Bool) → errors_in_reply (cond t (cond d (with_parameters head (open_part (p ∷ ps))) (AfterParameters head (p ∷ ps))) (InParameters head (p ∷ ps) (left - 1))) ≡ []
    by_last true true = parameters_blame (head.columns == 0) head (open_part (p ∷ ps))
    by_last true false = refl
    by_last false d = refl
parameter_blames d _ p = refl

field_blames : (d : Bool) (r : Reply) (p : List ℕ) → errors_in_reply (with_field d r p) ≡ errors_in_reply r
field_blames d (InFields head w ps left) p = by_last (leb left 1) d
  where
    by_last : (t d : Bool) → errors_in_reply (cond t (cond d (Complete head w (open_part (p ∷ ps))) (AfterFields head w (p ∷ ps))) (InFields head w (p ∷ ps) (left - 1))) ≡ []
    by_last true true = refl
    by_last true false = refl
    by_last false d = refl
field_blames d _ p = refl

part_end_blames : (r : Reply) (p : List ℕ) → errors_in_reply (with_part_end r p) ≡ errors_in_reply r
part_end_blames (AfterParameters head ps) p = parameters_blame (head.columns == 0) head (closed_part ps p)
part_end_blames _ p = refl

reply_blames : (k : Kind) (d : Bool) (r : Reply) (p : List ℕ) → is_failed k ≡ false → errors_in_reply (grow_reply d k r p) ≡ errors_in_reply r
reply_blames kinds.Failed d r p e = cc
reply_blames kinds.ColumnsDone d r p e = part_end_blames r p
reply_blames (kinds.Prepared params columns) d r p e = head_blames r (record { payload = p; params = params; columns = columns })
reply_blames kinds.Parameter d r p e = parameter_blames d r p
reply_blames kinds.Field d r p e = field_blames d r p
reply_blames _ d r p e = refl

-- another payload than an ERR has none
pub calm_blames : (k : Kind) (t : Talk) (p : List ℕ) → is_failed k ≡ false → errors_in (grow k t p) ≡ errors_in t
calm_blames k (Start login) p e = start_blames k login p e
calm_blames k (Greeted login q offer chain) p e = ap (λ es. es ++ errors_in_chain chain) (one_blames k p e)
calm_blames k (Changing terms secret stand c chain) p e = ap (λ es. es ++ errors_in_chain chain) (one_blames k p e)
calm_blames k (Asked terms c) p e = one_blames k p e
calm_blames k (Queried terms c x) p e = sets_blame k (deprecates_eof terms.kept) x p e
calm_blames k (Preparing terms c reply) p e = reply_blames k (deprecates_eof terms.kept) reply p e
calm_blames k _ p e = refl

-- an ERR among sets
failed_sets : (x : Sets) (p : List ℕ) → errors_in_sets (sets.with_error x p) ≡ error_onto (err_at false p) (errors_in_sets x)
failed_sets (NoSets asking) p = refl
failed_sets _ p = refl

not_greeting_if : (t : Bool) → is_greeting (cond t spots.Further spots.Idle) ≡ false
not_greeting_if true = refl
not_greeting_if false = refl

sets_greet : (x : Sets) → is_greeting (spot_in x) ≡ false
sets_greet (Lone older q status) = not_greeting_if (has_more_results status)
sets_greet (Ended older head rows last status) = not_greeting_if (has_more_results status)
sets_greet _ = refl

failed_reply : (d : Bool) (r : Reply) (p : List ℕ) → kind_by (spot_in_reply r) Text d 0 [] p ≡ kinds.Failed → error_onto (err_at false p) [] ≡ error_onto (err_at (is_greeting (spot_in_reply r)) p) (errors_in_reply r)
failed_reply d (Refused q) p e = cc
failed_reply d _ p e = refl

-- an ERR in a chain
chain_fails : (o : Option AuthStand) (chain : List Packet) (x : Option ErrPacket) (p : List ℕ) → err_at false p ≡ x → error_onto x [] ++ errors_in_chain chain ≡ error_onto (err_at (is_greeting (chain_spot o)) p) (errors_in_chain chain)
chain_fails o chain x p e = onto x ∙ ap (λ y. error_onto y (errors_in_chain chain)) (sym e ∙ ap (λ b. err_at b p) (sym (chain_shook o)))
  where
    onto : (x : Option ErrPacket) → error_onto x [] ++ errors_in_chain chain ≡ error_onto x (errors_in_chain chain)
    onto None = refl
    onto (Some packet) = refl

-- an ERR has its error
pub failed_blames : (t : Talk) (p : List ℕ) → kind_of t p ≡ kinds.Failed → errors_in (grow kinds.Failed t p) ≡ error_onto (err_at (is_greeting (context_of t).spot) p) (errors_in t)
failed_blames (Start login) p e = refl
failed_blames (Greeted login q offer chain) p e = chain_fails (stand_in (greeted_stand login offer) chain) chain (err_at false p) p refl
failed_blames (Changing terms secret stand c chain) p e = chain_fails (stand_in stand chain) chain (err_at false p) p refl
failed_blames (Asked terms c) p e = refl
failed_blames (Queried terms c x) p e = failed_sets x p ∙ ap (λ b. error_onto (err_at b p) (errors_in_sets x)) (sym (sets_greet x))
failed_blames (Preparing terms c reply) p e = failed_reply (deprecates_eof terms.kept) reply p e
failed_blames _ p e = cc
