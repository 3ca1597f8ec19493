-- The payload with the heads and values of a list is that of its parameters.
pub mod Dates
pub mod Lists
use Rattle.std.proofs.Common.{◌≡◌, ℕ, List, [], ◌∷◌, ◌++◌, map, Bool, refl, sym, ap, ◌∙◌}
use Rattle.std.proofs.lemmas.List.Folds.{flat_map-map}
use Rattle.std.specs.List.{flat_map}
use Rattle.my_command.specs.declared.statement.Parameter.{Parameter}
use Rattle.my_command.specs.declared.statement.ParameterHead.{ParameterHead}
use Rattle.my_command.specs.Client.Statement.{execute_bytes, execute_head, head_of, values_bytes, written_value}
use Rattle.my_value.specs.declared.value.Value.{Value}
use Rattle.my_value.specs.declared.value.Value.TheVariants.{NULL, Bytes, Int, UInt, FloatBits, DoubleBits, Date, Time}
use Rattle.my_params.specs.Parameters.{body_of, needs_long, parameter_of, sent_head, sent_value}

head_same : (ahead : Bool) (v : Value) → head_of (parameter_of ahead v) ≡ sent_head v
head_same ahead NULL = refl
head_same ahead (Bytes text) = refl
head_same ahead (Int n) = refl
head_same ahead (UInt n) = refl
head_same ahead (FloatBits bits) = refl
head_same ahead (DoubleBits bits) = refl
head_same ahead (Date a b c d e f g) = refl
head_same ahead (Time a b c d e f) = refl

heads_same : (ahead : Bool) (vs : List Value) → map head_of (map (parameter_of ahead) vs) ≡ map sent_head vs
heads_same ahead [] = refl
heads_same ahead (v ∷ vs) = ap (λ (h : ParameterHead). h ∷ map head_of (map (parameter_of ahead) vs)) (head_same ahead v) ∙ ap (λ (hs : List ParameterHead). sent_head v ∷ hs) (heads_same ahead vs)

values_same : (ahead : Bool) (vs : List Value) → values_bytes (map (parameter_of ahead) vs) ≡ flat_map (λ v. written_value (sent_value ahead v)) vs
values_same ahead vs = flat_map-map (λ (p : Parameter). written_value p.value) (parameter_of ahead) vs

pub body_is : (id : ℕ) (ahead : Bool) (vs : List Value) (heads : List ParameterHead) (front body : List ℕ) → ahead ≡ needs_long vs → heads ≡ map sent_head vs → front ≡ execute_head id heads → body ≡ front ++ flat_map (λ v. written_value (sent_value ahead v)) vs → body ≡ body_of id vs
body_is id ahead vs heads front body long headed fronted put =
    put ∙ ap (λ (x : List ℕ). x ++ flat_map (λ v. written_value (sent_value ahead v)) vs) (fronted ∙ ap (execute_head id) (headed ∙ sym (heads_same ahead vs))) ∙ ap (λ (x : List ℕ). execute_head id (map head_of (map (parameter_of ahead) vs)) ++ x) (sym (values_same ahead vs)) ∙ ap (λ (b : Bool). execute_bytes id (map (parameter_of b) vs)) long
