-- 13.3 Left-hand-side expressions: members, indexes and calls.
use Rattle.std.specs.Prelude.{◌+◌, if◌then◌else◌}
use Rattle.tokens.specs.Kind.{LParen, RParen, LBrack, RBrack, Dot, Dot3}
use Rattle.grammar.specs.Sheet.{ℕ, ◌is◌, is_word, Cause, Tree, Forest, node, cons, one, join, Sheet, token, Reading, tree, ◌>>=◌, ◌>>◌, yield, make, want, comma_or, unless_refuse}
use Rattle.grammar.specs.Job.{expression, assignment, spread, primary, links, arguments, Asks}
use Rattle.rows.specs.Row as Row

module _ {N : Type 0} (sheet : Sheet) (ask : Asks N) where
  -- 13.3 LeftHandSideExpression : MemberExpression | CallExpression, both of which begin with a PrimaryExpression
  unfoldable pub left_hand_side_of : ℕ → Reading N
  left_hand_side_of at = do
    base ← ask (primary at)
    ask (links at base.end (tree base))

  -- MemberExpression, CallExpression : what is left of here, and then . IdentifierName | [ Expression ] | Arguments, any number of them
  unfoldable pub links_of : ℕ → ℕ → Tree → Reading N
  links_of first at left =
      if token sheet at is Dot then (do
        unless_refuse (is_word (token sheet (at + 1))) (Cause.Unexpected (at + 1))
        ask (links first (at + 2) (node Row.Member (at + 1) first (at + 2) (one left))))
      else if token sheet at is LBrack then (do
        inner ← ask (expression (at + 1))
        want sheet RBrack inner.end
        ask (links first (inner.end + 1) (node Row.Index first first (inner.end + 1) (cons left inner.trees))))
      else if token sheet at is LParen then (do
        call ← ask (arguments first (at + 1) (one left))
        ask (links first call.end (tree call)))
      else yield at (one left)

  -- 13.3 Arguments : ( ) | ( ArgumentList ) | ( ArgumentList , )
  -- The Call that began at `first`, from a place where an argument could start; its callee stands before the arguments so far.
  unfoldable pub arguments_of : ℕ → ℕ → Forest → Reading N
  arguments_of first at so_far =
      if token sheet at is RParen then make Row.Call first first (at + 1) so_far
      else do
        argument ← ask (if token sheet at is Dot3 then spread at else assignment at)
        comma_or sheet RParen argument.end
            (ask (arguments first (argument.end + 1) (join so_far argument.trees)))
            (make Row.Call first first (argument.end + 1) (join so_far argument.trees))
