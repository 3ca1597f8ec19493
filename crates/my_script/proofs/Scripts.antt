-- How a script's lines go on.
pub mod Cuts
pub mod Standing
use Rattle.std.proofs.Common.{◌≡◌, ◌+◌, ◌≤◌, ◌<◌, ℕ, suc, List, length, take, Option, Some, None, Bool, sym, ap, ◌∙◌, Bor, option_map, IfSome, arith}
use Rattle.my_script.specs.declared.step.Step.{Step}
use Rattle.my_link.specs.declared.line.WorldLine.{WorldLine}
use Rattle.my_script.specs.declared.reading.item.Item.{Item}
use Rattle.my_script.specs.declared.reading.script.Sofar.{Sofar}
use Rattle.my_script.specs.Cut.{first_of, rest_of, pieces_left}
use Rattle.my_script.specs.Line.{line_of}
use Rattle.my_script.specs.Script.{Script, Bad, front, with_item, on_line, admitted, script_from}
use Rattle.my_script.proofs.Scripts.Cuts.{pieces_cut}

abbrev pub text_of : Option (Bor (List ℕ)) → Option (List ℕ)
text_of rest = option_map (λ (r : Bor (List ℕ)). r.now) rest

line_out : (plans : Bool) (s : Sofar) (n : ℕ) (text : List ℕ) (item : Item) → item ≡ line_of (first_of 10 text) → script_from plans s n (pieces_left 10 (Some text)) ≡ on_line (admitted plans s item) n (first_of 10 text) item (λ after. script_from plans after (n + 1) (pieces_left 10 (rest_of 10 text)))
line_out plans s n text item is =
    ap (script_from plans s n) (pieces_cut 10 text)
    ∙ ap (λ item. on_line (admitted plans s item) n (first_of 10 text) item (λ after. script_from plans after (n + 1) (pieces_left 10 (rest_of 10 text)))) (sym is)

pub line_bad : (plans : Bool) (s : Sofar) (n : ℕ) (text : List ℕ) (item : Item) (ps : List WorldLine) (qs : List Step) (all : Script) → item ≡ line_of (first_of 10 text) → admitted plans s item ≡ None → front ps qs (script_from plans s n (pieces_left 10 (Some text))) ≡ all → Bad n (take 200 (first_of 10 text)) ≡ all
line_bad plans s n text item ps qs all is none inv =
    ap (λ o. front ps qs (on_line o n (first_of 10 text) item (λ after. script_from plans after (n + 1) (pieces_left 10 (rest_of 10 text))))) (sym none)
    ∙ ap (front ps qs) (sym (line_out plans s n text item is)) ∙ inv

pub line_good : (plans : Bool) (s after : Sofar) (n : ℕ) (text : List ℕ) (item : Item) (ps ps' : List WorldLine) (qs qs' : List Step) (rest : Option (List ℕ)) (all : Script) → item ≡ line_of (first_of 10 text) → admitted plans s item ≡ Some after → rest ≡ rest_of 10 text → ((more : Script) → front ps' qs' more ≡ front ps qs (with_item item more)) → front ps qs (script_from plans s n (pieces_left 10 (Some text))) ≡ all → front ps' qs' (script_from plans after (n + 1) (pieces_left 10 rest)) ≡ all
line_good plans s after n text item ps ps' qs qs' rest all is some e adds inv =
    ap (λ r. front ps' qs' (script_from plans after (n + 1) (pieces_left 10 r))) e
    ∙ adds (script_from plans after (n + 1) (pieces_left 10 (rest_of 10 text)))
    ∙ ap (λ o. front ps qs (on_line o n (first_of 10 text) item (λ after. script_from plans after (n + 1) (pieces_left 10 (rest_of 10 text))))) (sym some)
    ∙ ap (front ps qs) (sym (line_out plans s n text item is)) ∙ inv

-- the bytes and their end that are left
abbrev pub left_over : Option (Bor (List ℕ)) → ℕ
left_over None = 0
left_over (Some r) = suc (length r.now)

pub less_left : (rest : Option (Bor (List ℕ))) (k : ℕ) → IfSome rest (λ r. length r.now < k) → left_over rest ≤ k
less_left None k h = omega arith
less_left (Some r) k h = omega arith
