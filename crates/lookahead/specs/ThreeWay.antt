-- The three-way answer (RULES L), as the crate's arrow.rs (lines 57 to 215) reads it, token by token: is what starts here the head of an arrow function?
-- Past the end a kind reads as 0. Names are 1 to 5, 14, 15; modifiers 2, 5, 6, 53; literals 8 to 13.
use Rattle.std.specs.Prelude.{◌+◌, if◌then◌else◌}
use Rattle.tokens.specs.Bool.{ℕ, Bool, true, false, not, List, ◌or◌, ◌and◌, ◌is◌}
use Rattle.tokens.specs.Kind.{Ident, Async, As, Const, This, Extends, LParen, RParen, LBrack, LCurly, Comma, Colon, Question, Dot3, Arrow, LAngle, RAngle, Slash, Eq}
use Rattle.tokens.specs.Token.{kind_at, flag_at, is_literal, is_binding_identifier, is_modifier_kind}
use Rattle.lookahead.specs.declared.Tristate.{Tristate}

-- `()`, lines 100 to 112: "() =>", "() {", and with TypeScript "():", which after Async may be a call in a conditional
unfoldable pub no_parameters : Bool → Bool → ℕ → Tristate
no_parameters is_ts is_async third =
    if third is Colon and is_ts then (if is_async then Tristate.Maybe else Tristate.True)
    else if third is Arrow or third is LCurly then Tristate.True
    else Tristate.False

unfoldable pub rest_parameter : ℕ → Tristate  -- `(...`, lines 122 to 132: "(...ident" is a head, "(...null" is not
rest_parameter third =
    if third is Ident then Tristate.True
    else if is_literal third then Tristate.False
    else Tristate.Maybe

-- "(xxx yyy", lines 140 to 148, where xxx is a modifier but no Async, and yyy a name
unfoldable pub modified_name : ℕ → ℕ → Bool
modified_name second third = is_modifier_kind second and not (second is Async) and is_binding_identifier third

unfoldable pub after_name : ℕ → ℕ → Tristate  -- `(`, a name or `this`, and what stands after it, lines 157 to 177
after_name third fourth =
    -- "(a:"
    if third is Colon then Tristate.True
    -- "(a?:", "(a?,", "(a?=", "(a?)"
    else if third is Question
    then (if fourth is Colon or fourth is Comma or fourth is Eq or fourth is RParen then Tristate.True else Tristate.False)
    -- "(a,", "(a=", "(a)"
    else if third is Comma or third is Eq or third is RParen then Tristate.Maybe
    else Tristate.False

unfoldable pub first_parameter : ℕ → ℕ → ℕ → Tristate  -- `(` and then anything else, lines 133 to 178
first_parameter second third fourth =
    if modified_name second third then (if third is As then Tristate.False else Tristate.True)
    -- what is neither a name nor `this` begins no parameter
    else if not (is_binding_identifier second) and not (second is This) then Tristate.False
    else after_name third fourth

unfoldable pub after_paren : List ℕ → Bool → Bool → ℕ → Tristate  -- `(` at the place, lines 94 to 180
after_paren kinds is_ts is_async at =
    let second = kind_at kinds (at + 1) in
    let third = kind_at kinds (at + 2) in
    let fourth = kind_at kinds (at + 3) in
    if second is RParen then no_parameters is_ts is_async third
    -- "([" and "({" may start a binding pattern
    else if second is LBrack or second is LCurly then Tristate.Maybe
    else if second is Dot3 then rest_parameter third
    else first_parameter second third fourth

unfoldable pub type_parameter : ℕ → ℕ → Tristate  -- `<` and a name with JSX, lines 195 to 209: "<T extends U", "<T =", "<T,"
type_parameter third fourth =
    if third is Extends
    then (if fourth is Eq or fourth is RAngle or fourth is Slash then Tristate.False
    else if is_binding_identifier fourth then Tristate.Maybe
    else Tristate.True)
    else if third is Eq or third is Comma then Tristate.True
    else Tristate.False

unfoldable pub names_type : ℕ → Bool  -- what may stand after `<`: a name or Const
names_type second = second is Const or is_binding_identifier second

-- `<` at the place, lines 181 to 212; with JSX a Const is eaten if it is there, and then one token whatever it is
unfoldable pub after_angle : List ℕ → Bool → ℕ → Tristate
after_angle kinds is_jsx at =
    let second = kind_at kinds (at + 1) in
    if not (names_type second) then Tristate.False
    else if not is_jsx then Tristate.Maybe
    else if second is Const then type_parameter (kind_at kinds (at + 3)) (kind_at kinds (at + 4))
    else type_parameter (kind_at kinds (at + 2)) (kind_at kinds (at + 3))

unfoldable pub after_open : List ℕ → Bool → Bool → Bool → ℕ → Tristate  -- `(` or `<` at the place, lines 90 to 214; False at any other start
after_open kinds is_ts is_jsx is_async at =
    if kind_at kinds at is LParen then after_paren kinds is_ts is_async at
    else if kind_at kinds at is LAngle then after_angle kinds is_jsx at
    else Tristate.False

-- the worker, lines 77 to 215: an Async is eaten; what opens must stand on its line
unfoldable pub three_way : List ℕ → List ℕ → Bool → Bool → ℕ → Tristate
three_way kinds flags is_ts is_jsx at =
    if kind_at kinds at is Async
    then (if flag_at flags (at + 1) is 1 then Tristate.False else after_open kinds is_ts is_jsx true (at + 1))
    else after_open kinds is_ts is_jsx false at
