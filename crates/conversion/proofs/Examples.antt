-- Conversions of written-out trees, by computation. Each comment has the text, whose tokens count from 0.
-- Assumes nothing.
use mathlib.Core.Path.{◌≡◌}
use mathlib.Core.List.{[], ◌∷◌}
use Rattle.tokens.specs.declared.cause.Cause.TheVariants.{Target as NoTarget, Spread as SpreadNotLast}
use Rattle.rows.specs.Row as row
use Rattle.rows.specs.Tree.{node, cons, one}
use Rattle.rows.specs.Record.{says}
use Rattle.conversion.specs.Conversion.{simple, turned, refused, convert_as, convert}
use Rattle.conversion.proofs.KidRoles.{conversion}
use Rattle.conversion.proofs.NotJudgedAgain.{plain, leaf}

record Computed : Type 0 where
  -- `[a, b]`
  array : convert (plain row.Array 0 5 (cons (leaf row.Identifier 1) (one (leaf row.Identifier 3))))
      ≡ turned (plain row.TargetArray 0 5 (cons (leaf row.TargetName 1) (one (leaf row.TargetName 3)))) []
  -- `((a))`
  parens : convert (plain row.Paren 0 5 (one (plain row.Paren 1 4 (one (leaf row.Identifier 2)))))
      ≡ turned (plain row.TargetParen 0 5 (one (plain row.TargetParen 1 4 (one (leaf row.TargetName 2))))) []
  -- `{a, b = 1}`
  shorthands : convert
      (plain row.Object 0 7
      (cons (plain row.Shorthand 1 2 (one (leaf row.Identifier 1))) (one (node row.ShorthandInit 4 3 6 (cons (leaf row.Identifier 3) (one (leaf row.Literal 5)))))))
      ≡ turned
      (plain row.TargetObject 0 7
      (cons (plain row.TargetShorthand 1 2 (one (leaf row.TargetName 1)))
      (one (node row.TargetShorthandInit 4 3 6 (cons (leaf row.TargetName 3) (one (leaf row.Literal 5)))))))
      []
  -- `{a: b, [c]: d}`
  pairs : convert
      (plain row.Object 0 11
      (cons (plain row.Property 1 4 (cons (leaf row.Key 1) (one (leaf row.Identifier 3))))
      (one (plain row.Property 5 10 (cons (plain row.ComputedKey 5 8 (one (leaf row.Identifier 6))) (one (leaf row.Identifier 9)))))))
      ≡ turned
      (plain row.TargetObject 0 11
      (cons (plain row.TargetProperty 1 4 (cons (leaf row.Key 1) (one (leaf row.TargetName 3))))
      (one (plain row.TargetProperty 5 10 (cons (plain row.ComputedKey 5 8 (one (leaf row.Identifier 6))) (one (leaf row.TargetName 9)))))))
      []
  -- `[(a = 1)]`: 9 at the `a`, where what is no target begins
  no_default : convert (plain row.Array 0 7 (one (plain row.Paren 1 6 (one (node row.Assign 3 2 5 (cons (leaf row.TargetName 2) (one (leaf row.Literal 4)))))))) ≡ refused (NoTarget 2)
  -- `(1)`
  paren_literal : convert (plain row.Paren 0 3 (one (leaf row.Literal 1))) ≡ refused (NoTarget 1)
  -- `(([a]))`: the inner Paren is the row that is no target
  paren_array : convert (plain row.Paren 0 7 (one (plain row.Paren 1 6 (one (plain row.Array 2 5 (one (leaf row.Identifier 3))))))) ≡ refused (NoTarget 1)
  -- `[a]` and `([a])` where a simple target is wanted
  simple_array : convert_as (plain row.Array 0 3 (one (leaf row.Identifier 1))) simple ≡ refused (NoTarget 0)
  simple_paren_array : convert_as (plain row.Paren 0 5 (one (plain row.Array 1 4 (one (leaf row.Identifier 2))))) simple ≡ refused (NoTarget 0)
  -- `[...1, 2]`: 10 before the argument is looked at
  spread_first : convert (plain row.Array 0 6 (cons (plain row.Spread 1 3 (one (leaf row.Literal 2))) (one (leaf row.Literal 4)))) ≡ refused (SpreadNotLast 1)
  -- `[1, ...a, b]`: 9 at the first element
  first_refusal : convert
      (plain row.Array 0 8 (cons (leaf row.Literal 1) (cons (plain row.Spread 3 5 (one (leaf row.Identifier 4))) (one (leaf row.Identifier 6)))))
      ≡ refused (NoTarget 1)
  -- `{...[...a,],}`: records 3 at 2, 4 at 0, 4 at 2
  object_rest : convert
      (plain row.ObjectRestComma 0 9 (one (plain row.Spread 1 7 (one (plain row.ArrayRestComma 2 7 (one (plain row.Spread 3 5 (one (leaf row.Identifier 4)))))))))
      ≡ turned
      (plain row.TargetObject 0 9 (one (plain row.TargetRest 1 7 (one (plain row.TargetArray 2 7 (one (plain row.TargetRest 3 5 (one (leaf row.TargetName 4)))))))))
      (says 3 2 ∷ says 4 0 ∷ says 4 2 ∷ [])
  -- `[...[...a,],]`: records 4 at 2, 4 at 0
  array_rest : convert
      (plain row.ArrayRestComma 0 9 (one (plain row.Spread 1 7 (one (plain row.ArrayRestComma 2 7 (one (plain row.Spread 3 5 (one (leaf row.Identifier 4)))))))))
      ≡ turned
      (plain row.TargetArray 0 9 (one (plain row.TargetRest 1 7 (one (plain row.TargetArray 2 7 (one (plain row.TargetRest 3 5 (one (leaf row.TargetName 4)))))))))
      (says 4 2 ∷ says 4 0 ∷ [])
  -- `{...([a])}`: 9 at the Paren
  rest_paren_array : convert
      (plain row.Object 0 7 (one (plain row.Spread 1 6 (one (plain row.Paren 2 6 (one (plain row.Array 3 5 (one (leaf row.Identifier 4)))))))))
      ≡ refused (NoTarget 2)
  -- `[...a = 1]`: an Assign is no rest argument
  rest_default : convert
      (plain row.Array 0 6 (one (plain row.Spread 1 5 (one (node row.Assign 3 2 5 (cons (leaf row.TargetName 2) (one (leaf row.Literal 4)))))))) ≡ refused (NoTarget 2)
  -- `[...(a)]`
  rest_paren : convert (plain row.Array 0 6 (one (plain row.Spread 1 5 (one (plain row.Paren 2 5 (one (leaf row.Identifier 3)))))))
      ≡ turned (plain row.TargetArray 0 6 (one (plain row.TargetRest 1 5 (one (plain row.TargetParen 2 5 (one (leaf row.TargetName 3))))))) []
  -- `{...{a}}`: record 3 at 2
  rest_object : convert
      (plain row.Object 0 6 (one (plain row.Spread 1 5 (one (plain row.Object 2 5 (one (plain row.Shorthand 3 4 (one (leaf row.Identifier 3)))))))))
      ≡ turned
      (plain row.TargetObject 0 6 (one (plain row.TargetRest 1 5 (one (plain row.TargetObject 2 5 (one (plain row.TargetShorthand 3 4 (one (leaf row.TargetName 3)))))))))
      (says 3 2 ∷ [])
  -- `[a += 1]`: record 5 at 2
  compound : convert (plain row.Array 0 5 (one (node row.CompoundAssign 2 1 4 (cons (leaf row.TargetName 1) (one (leaf row.Literal 3))))))
      ≡ turned (plain row.TargetArray 0 5 (one (node row.TargetDefault 2 1 4 (cons (leaf row.TargetName 1) (one (leaf row.Literal 3)))))) (says 5 2 ∷ [])

computed : Computed
unfolding conversion
computed = search
