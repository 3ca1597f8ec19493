-- What holds of the newest exchange holds of the newest one that the grammar finds in the bytes.
use Rattle.std.proofs.Common.{◌≡◌, ℕ, List, [], ◌∷◌, ◌++◌, Bool, true, Some, refl, sym, ap, ◌∙◌, subst}
use Rattle.my_frame.specs.FrontLaws.{AreBytes}
use Rattle.my_grammar.proofs.Sound.{over_reads_none}
use Rattle.my_grammar.specs.declared.login.Login.{Login}
use Rattle.my_grammar.specs.declared.spot.RowFormat.{RowFormat}
use Rattle.my_grammar.specs.declared.spot.RowFormat.TheVariants.{Text, Binary}
use Rattle.my_grammar.specs.declared.spot.Terms.{Terms}
use Rattle.my_grammar.specs.Cut.{Read, cut, is_over, read_from}
use Rattle.my_grammar.specs.Sets.{Asking, ByText, ByStatement, NoSets, Sets, asking_in, format_in, format_of}
use Rattle.my_grammar.specs.Talk.{Queried, Talk, origin}
use Rattle.my_params.specs.declared.params.Params.{Params}
use Rattle.my_reading.specs.declared.call.Call.{Call}
use Rattle.my_reading.specs.declared.call.Call.TheVariants.{Commit}
use Rattle.my_reading.specs.Commands.{execution, queried}
use Rattle.my_reading.specs.Executions.{Values, Fitting, Unfitting, values_for}
use Rattle.my_reading.specs.Endings.{IsTape}
use Rattle.my_reading.specs.Place.{Place, exchanges}
use Rattle.my_reading.specs.Reading.{reading}
use Rattle.my_reading.specs.Statements.{Statements}
use Rattle.my_reading.specs.Transactions.{commit_text}
use Rattle.my_statements.specs.Prepared.{StatementView}
use Rattle.my_client.specs.Kept.{Kept}
use Rattle.my_client.specs.Reads.{place_kept, tape_kept}
use Rattle.history_laws.specs.Found.{in_order, origins}
use Rattle.history_laws.specs.Fronts.{Set, sets_in}
use Rattle.history_laws.specs.Given.{sets_of}
use Rattle.history_laws.proofs.Finding.{cut_is, talks}
use Rattle.query_laws.specs.Begins.{IsExecution, IsQuery}
use Rattle.query_laws.specs.Found.{IsAnswered, IsDone, Oldest}
use Rattle.query_laws.proofs.Answering.{Answered, At, from_keeps}
use Rattle.query_laws.proofs.Committing.{IsCommitted}
use Rattle.query_laws.proofs.Firsts.{Grows, HasFirst, grow_keeps}

-- rows are of the format of the command
abbrev pub IsOf : (Talk → Type 0) → RowFormat → Type 0
IsOf B format = (terms : Terms) (c : List ℕ) (asking : Asking) → B (Queried terms c (NoSets asking)) → format_of asking ≡ format

pub query_format : (text : List ℕ) → IsOf (IsQuery text) Text
query_format text terms c asking w = let same : asking ≡ ByText = cc in ap format_of same

execution_format : (terms : Terms) (known : Statements) (id : ℕ) (v : Values) (u : Terms) (c : List ℕ) (asking : Asking) → execution terms known id v ≡ Some (Queried u c (NoSets asking)) → format_of asking ≡ Binary
execution_format terms known id (Fitting values) u c asking e = cc
execution_format terms known id (Unfitting x) u c asking e = cc

pub statement_format : (statement : StatementView) (params : Params) → IsOf (IsExecution statement params) Binary
statement_format statement params terms c asking w = execution_format w.0 w.1 statement.inner.id (values_for statement params) terms c asking w.2

module _ (login : Login) (k : Kept) (tape : IsTape login (tape_kept k)) (bytes : AreBytes k.taken) where
  abbrev p : Place
  p = place_kept login k

  abbrev newest : Talk
  newest = (read_from p.talk p.unread).talk

  found_is : (cut (in_order (origins (exchanges p))) k.taken).talks ≡ in_order (talks p.older) ++ newest ∷ []
  found_is = cut_is login (tape_kept k) bytes tape

  module _ (c : Call) (B : Talk → Type 0) (format : RowFormat) (is_of : IsOf B format) (first : Set → Type 0) (set_grows : Grows first) where
    first_of : p.call ≡ c → (began : Talk) → B began → Answered began (HasFirst first) newest → IsAnswered c B format first p k.taken
    first_of call_is began so a =
        let origin_there : B (origin newest) = subst B (sym a.origin_is) so in
        record {
          talk = newest;
          newest = record { older = in_order (talks p.older); found = found_is; call_is = call_is; began = origin_there };
          format_is = ap (λ t. format_in (sets_of t)) a.talk_is ∙ is_of a.terms a.command (asking_in a.sets) (subst (λ t. B (origin t)) a.talk_is origin_there);
          set = subst (λ t. Oldest first (sets_in (sets_of t))) (sym a.talk_is) a.has;
        }

    pub first_found : At c B (λ e x. HasFirst first x) p → IsAnswered c B format first p k.taken
    first_found w = first_of w.call_is w.began w.so (from_keeps w.began (HasFirst first) (λ d kind x q. grow_keeps first set_grows d kind x q) p.talk p.unread w.answered)

  pub commit_found : IsCommitted p → IsDone Commit (IsQuery commit_text) p k.taken
  commit_found w =
      let same : newest ≡ p.talk = ap (λ (r : Read). r.talk) (over_reads_none p.talk p.unread w.over) in
      record {
        talk = p.talk;
        newest = record { older = in_order (talks p.older); found = found_is ∙ ap (λ t. in_order (talks p.older) ++ t ∷ []) same; call_is = w.was.call_is; began = w.was.began };
        over = w.over;
        calm = w.was.calm;
      }
