-- 13.14 Conditional and 13.15 assignment: the assignment level, past an arrow function's head.
use Rattle.std.specs.Prelude.{◌+◌, if◌then◌else◌}
use Rattle.tokens.specs.Kind.{Async, Colon, Question, Arrow, Eq, Star2Eq}
use Rattle.conversion.specs.Conversion.{any, simple}
use Rattle.grammar.specs.Sheet.{ℕ, Bool, not, ◌and◌, ◌is◌, between, is_name, Tree, cons, one, join, kind_of, Sheet, token, break_before, Reading, Part, tree, leaf, ◌>>=◌, ◌>>◌, yield, make, want}
use Rattle.grammar.specs.{Job.assignment, Job.assign, Job.conditional, Job.binary, Job.body, Job.Asks, Update.converted}
use Rattle.rows.specs.Row as Row

unfoldable pub is_assignment_operator : ℕ → Bool  -- 13.15 = and AssignmentOperator, &&= ||= ??=
is_assignment_operator k = between Eq Star2Eq k

-- 15.9 AsyncArrowFunction : async [no LineTerminator here] AsyncArrowBindingIdentifier [no LineTerminator here] => AsyncConciseBody
unfoldable pub is_async_name : Sheet → ℕ → Bool
is_async_name sheet at = token sheet at is Async and is_name (token sheet (at + 1)) and not (break_before sheet (at + 1)) and token sheet (at + 2) is Arrow

module _ {N : Type 0} (sheet : Sheet) (ask : Asks N) where
  -- 13.15 LeftHandSideExpression = AssignmentExpression | LeftHandSideExpression AssignmentOperator AssignmentExpression
  -- What is left of the operator began at `first`. It is converted first: `=` to any target, the others to a simple one.
  unfoldable pub assign_of : ℕ → ℕ → Tree → Reading N
  assign_of first at left = do
    let plain = token sheet at is Eq
    target ← converted (if plain then any else simple) at left
    right ← ask (assignment (at + 1))
    make (if plain then Row.Assign else Row.CompoundAssign) at first right.end (join target.trees right.trees)

  -- 13.14 ConditionalExpression : ShortCircuitExpression ? AssignmentExpression : AssignmentExpression
  unfoldable pub conditional_of : ℕ → ℕ → Tree → Reading N
  conditional_of first at test = do
    if_true ← ask (assignment (at + 1))
    want sheet Colon if_true.end
    if_false ← ask (assignment (if_true.end + 1))
    make Row.Conditional at first if_false.end (cons test (join if_true.trees if_false.trees))

  -- what may follow the binary level: `=>` after a lone Identifier (15.3 ArrowParameters : BindingIdentifier), an assignment, a Conditional
  unfoldable pub after_binary : ℕ → Part → Reading N
  after_binary first left =
      if kind_of (tree left) is Row.Identifier and token sheet left.end is Arrow then ask (body Row.Arrow first left.end (one (leaf Row.BindingName first)))
      else if is_assignment_operator (token sheet left.end) then ask (assign first left.end (tree left))
      else if token sheet left.end is Question then ask (conditional first left.end (tree left))
      else yield left.end left.trees

  unfoldable pub value_of : ℕ → Reading N
  value_of at =
      if is_async_name sheet at then ask (body Row.AsyncArrow at (at + 2) (one (leaf Row.BindingName (at + 1))))
      else do
        left ← ask (binary 0 at)
        after_binary at left
