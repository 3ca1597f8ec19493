use Rattle.std.proofs.Common.{◌≡◌, ℕ, Bool, true, false, not, List, IfOk, sym, ap, ◌∙◌, subst}
use Rattle.std.specs.Prelude.{◌&&◌}
use Rattle.std.specs.Str.{bytes_eq}
use Rattle.my_server.specs.declared.script.ServerScript.{ServerScript}
use Rattle.my_server.specs.ClientLogin.{LoginParts, parts_of}
use Rattle.my_server.specs.Machine.{admits, knows_password}
use Rattle.my_server.proofs.greet.admits.Goals as goal

turned : (a b : Bool) → a ≡ not b → b ≡ not a
turned a true e = ap not (sym e)
turned a false e = ap not (sym e)

-- the user is the script's, or isn't
same_user : (script : ServerScript) (login : LoginParts) (user : List ℕ) (differs : Bool) → user ≡ script.user → differs ≡ not (bytes_eq login.user user) → not differs && knows_password script.stored script.nonce login.scramble ≡ admits script login
unfolding admits
same_user script login user differs e is =
    ap (λ b. b && knows_password script.stored script.nonce login.scramble) (sym (turned differs (bytes_eq login.user user) is) ∙ ap (λ x. bytes_eq login.user x) e)

pub returns-then-ne : goal.returns-then-ne
returns-then-ne c = same_user c.args.script.now (parts_of c.args.login.now) c.as_slice.result.now true c.as_slice.ensures c.if-ne.ensures

pub returns : goal.returns
returns c =
    subst (λ known. IfOk c.knows_password.result (λ admitted. admitted ≡ known)) (same_user c.args.script.now (parts_of c.args.login.now) c.as_slice.result.now false c.as_slice.ensures c.if-ne.ensures) c.knows_password.ensures
