-- 15.3 Arrow functions and 15.9 async arrow functions, and where a head is tried.
use Rattle.std.specs.Prelude.{◌+◌, ◌∷◌, if◌then◌else◌}
use Rattle.tokens.specs.Kind.{Async, LParen, RParen, LCurly, Dot3, Arrow}
use Rattle.grammar.specs.Sheet.{ℕ, not, [], ◌or◌, ◌is◌, Cause, Forest, nil, join, break_before_arrow, Sheet, token, break_before, Reading, Part, ◌>>=◌, ◌>>◌, try, yield, make, want, comma_or, unless_refuse, say}
use Rattle.grammar.specs.Job.{assignment, value, binding_element, binding_rest, head, parameters, body, Asks}
use Rattle.rows.specs.Row as Row

-- what to do where an assignment level starts at `(` or Async: read on past a head, try one, or read a head and nothing else
pub data Way : Type 0 where
  pass attempt commit : Way

-- a reader's policy: the way it takes at a place, by its notes, and what it notes after a head that failed there
pub record Policy (N : Type 0) : Type 0 where
  pub way : ℕ → N → Way
  pub mark : ℕ → N → N

module _ {N : Type 0} where
  unfoldable pub by_way : Way → Reading N → Reading N → Reading N → Reading N
  by_way pass passing trying committing = passing
  by_way attempt passing trying committing = trying
  by_way commit passing trying committing = committing

  unfoldable pub choose : (N → Way) → Reading N → Reading N → Reading N → Reading N  -- the way that the policy takes with the notes as they are
  choose way passing trying committing notes = by_way (way notes) passing trying committing notes

  unfoldable pub noting : (N → N) → Reading N → Reading N  -- a reading after a change of the notes
  noting change reading notes = reading (change notes)

module _ {N : Type 0} (policy : Policy N) (sheet : Sheet) (ask : Asks N) where
  unfoldable pub arrow_of : ℕ → Part → Reading N  -- a head that was read, and its body
  arrow_of at parameter_list = ask (body (if token sheet at is Async then Row.AsyncArrow else Row.Arrow) at parameter_list.end parameter_list.trees)

  -- 13.15 AssignmentExpression : ConditionalExpression | ArrowFunction | AsyncArrowFunction | LeftHandSideExpression = AssignmentExpression | ..
  -- A head that fails is given up: its records are dropped, its notes stay, and its place is noted.
  unfoldable pub assignment_of : ℕ → Reading N
  assignment_of at =
      if token sheet at is LParen or token sheet at is Async
      then choose (policy.way at)
      (ask (value at))
      (try (ask (head at)) (arrow_of at) (noting (policy.mark at) (ask (value at))))
      (ask (head at) >>= arrow_of at)
      else ask (value at)

module _ {N : Type 0} (sheet : Sheet) (ask : Asks N) where
  -- 15.3 ArrowFunction : ArrowParameters [no LineTerminator here] => ConciseBody, up to the `=>`; ArrowFormalParameters : ( UniqueFormalParameters )
  unfoldable pub parenthesized_head_of : ℕ → Reading N
  parenthesized_head_of at = do
    want sheet LParen at
    list ← ask (parameters (at + 1) nil)
    want sheet Arrow list.end
    yield list.end list.trees

  -- 15.9 AsyncArrowFunction : async [no LineTerminator here] ArrowFormalParameters [no LineTerminator here] => AsyncConciseBody
  unfoldable pub head_of : ℕ → Reading N
  head_of at =
      if token sheet at is Async then (do
        unless_refuse (not (break_before sheet (at + 1))) (Cause.Unexpected (at + 1))
        parenthesized_head_of (at + 1))
      else parenthesized_head_of at

  -- 15.1 FormalParameters : [empty] | FunctionRestParameter | FormalParameterList | FormalParameterList , | FormalParameterList , FunctionRestParameter
  -- From a place where a parameter could start, up to past the `)`. A rest must be followed by `)`, or it is 12.
  unfoldable pub parameters_of : ℕ → Forest → Reading N
  parameters_of at so_far =
      if token sheet at is RParen then yield (at + 1) so_far
      else if token sheet at is Dot3 then (do
        rest ← ask (binding_rest at)
        unless_refuse (token sheet rest.end is RParen) (Cause.RestLast rest.end)
        yield (rest.end + 1) (join so_far rest.trees))
      else do
        parameter ← ask (binding_element at)
        comma_or sheet RParen parameter.end
            (ask (parameters (parameter.end + 1) (join so_far parameter.trees)))
            (yield (parameter.end + 1) (join so_far parameter.trees))

  -- `=>` and the body: 15.3 ConciseBody : [lookahead ≠ {] ExpressionBody. A line break before the `=>` is record 1; `{` as body is 8.
  unfoldable pub body_of : ℕ → ℕ → ℕ → Forest → Reading N
  body_of kind first at parameter_list = do
    say (if break_before sheet at then break_before_arrow at ∷ [] else [])
    unless_refuse (not (token sheet (at + 1) is LCurly)) (Cause.Unexpected (at + 1))
    inner ← ask (assignment (at + 1))
    make kind at first inner.end (join parameter_list inner.trees)
