-- The short cut: `(` before a literal is False by the worker too, since a literal is no name, no modifier, nor anything else that begins a parameter.
-- Assumes nothing.
use Rattle.std.proofs.Common.{◌≡◌, ℕ, ◌+◌, Bool, true, List, get_or, arith}
use Rattle.std.proofs.lemmas.Bool.Decides.{nat_tests}
use Rattle.tokens.specs.Token.{is_literal, is_binding_identifier, is_modifier_kind}
use Rattle.lookahead.specs.ThreeWay.{three_way, after_open, after_paren, first_parameter, modified_name}
use Rattle.lookahead.specs.declared.Tristate.{Tristate}

literal_first : (k third fourth : ℕ) → is_literal k ≡ true → first_parameter k third fourth ≡ Tristate.False
unfolding first_parameter modified_name is_modifier_kind is_binding_identifier is_literal
literal_first k third fourth e = grind (arith, nat_tests)

pub short_cut : (kinds flags : List ℕ) (is_ts is_jsx : Bool) (at : ℕ) → get_or kinds at 0 ≡ 18 → is_literal (get_or kinds (at + 1) 0) ≡ true
    → three_way kinds flags is_ts is_jsx at ≡ Tristate.False
unfolding three_way after_open after_paren is_literal
short_cut kinds flags is_ts is_jsx at opens literal = grind (arith, nat_tests, literal_first)
