-- 14.3.3 Destructuring binding patterns.
use Rattle.std.specs.Prelude.{◌+◌, ◌∷◌, if◌then◌else◌}
use Rattle.tokens.specs.Kind.{LBrack, RBrack, LCurly, RCurly, Comma, Colon, Dot3, Eq}
use Rattle.grammar.specs.Sheet.{ℕ, not, [], ◌and◌, ◌is◌, is_name, Cause, Tree, Forest, nil, cons, one, join, kind_of, mark_of, kids_of, rest_initializer, Sheet, token, Reading, tree, first_tree, leaf, ◌>>=◌, ◌>>◌, yield, make, unexpected, want, comma_or, unless_refuse, say}
use Rattle.grammar.specs.Job.{assignment, key, binding, binding_element, binding_elements, binding_properties, binding_property, binding_rest, Asks}
use Rattle.rows.specs.Row as Row

abbrev pub argument_of : Tree → Tree  -- the argument of a rest
argument_of rest = first_tree (kids_of rest)

module _ {N : Type 0} (sheet : Sheet) (ask : Asks N) where
  unfoldable pub binding_of : ℕ → Reading N  -- 14.3.3 BindingPattern : ObjectBindingPattern | ArrayBindingPattern; 13.1 BindingIdentifier
  binding_of at =
      if is_name (token sheet at) then yield (at + 1) (one (leaf Row.BindingName at))
      else if token sheet at is LBrack then ask (binding_elements at (at + 1) nil)
      else if token sheet at is LCurly then ask (binding_properties at (at + 1) nil)
      else unexpected at

  -- 14.3.3 BindingElement : SingleNameBinding | BindingPattern Initializer; SingleNameBinding : BindingIdentifier Initializer
  unfoldable pub binding_element_of : ℕ → Reading N
  binding_element_of at = do
    target ← ask (binding at)
    if token sheet target.end is Eq
        then (do
          initializer ← ask (assignment (target.end + 1))
          make Row.BindingDefault target.end at initializer.end (join target.trees initializer.trees))
        else yield target.end target.trees

  -- 14.3.3 BindingRestElement : ... BindingIdentifier | ... BindingPattern. An initializer is read, and is record 2 at its `=`.
  unfoldable pub binding_rest_of : ℕ → Reading N
  binding_rest_of at = do
    argument ← ask (binding_element (at + 1))
    say (if kind_of (tree argument) is Row.BindingDefault then rest_initializer (mark_of (tree argument)) ∷ [] else [])
    make Row.BindingRest at at argument.end argument.trees

  -- 14.3.3 ArrayBindingPattern : [ Elision BindingRestElement ] | [ BindingElementList ] | [ BindingElementList , Elision BindingRestElement ]
  -- The pattern that began at `first`, from a place where an element could start. A rest must be followed by `]`, or it is 12.
  unfoldable pub binding_elements_of : ℕ → ℕ → Forest → Reading N
  binding_elements_of first at so_far =
      if token sheet at is RBrack then make Row.BindingArray first first (at + 1) so_far
      else if token sheet at is Comma then ask (binding_elements first (at + 1) (join so_far (one (leaf Row.Hole at))))
      else if token sheet at is Dot3 then (do
        rest ← ask (binding_rest at)
        unless_refuse (token sheet rest.end is RBrack) (Cause.RestLast rest.end)
        make Row.BindingArray first first (rest.end + 1) (join so_far rest.trees))
      else do
        element ← ask (binding_element at)
        comma_or sheet RBrack element.end
            (ask (binding_elements first (element.end + 1) (join so_far element.trees)))
            (make Row.BindingArray first first (element.end + 1) (join so_far element.trees))

  -- 14.3.3 ObjectBindingPattern : { } | { BindingRestProperty } | { BindingPropertyList } | { BindingPropertyList , BindingRestProperty }
  -- BindingRestProperty : ... BindingIdentifier. A rest must be followed by `}`, or it is 12; then it must be a bare name, or it is 11.
  unfoldable pub binding_properties_of : ℕ → ℕ → Forest → Reading N
  binding_properties_of first at so_far =
      if token sheet at is RCurly then make Row.BindingObject first first (at + 1) so_far
      else if token sheet at is Dot3 then (do
        rest ← ask (binding_rest at)
        unless_refuse (token sheet rest.end is RCurly) (Cause.RestLast rest.end)
        unless_refuse (kind_of (argument_of (tree rest)) is Row.BindingName) (Cause.RestName (at + 1))
        make Row.BindingObject first first (rest.end + 1) (join so_far rest.trees))
      else do
        part ← ask (binding_property at)
        comma_or sheet RCurly part.end
            (ask (binding_properties first (part.end + 1) (join so_far part.trees)))
            (make Row.BindingObject first first (part.end + 1) (join so_far part.trees))

  unfoldable pub binding_shorthand_of : ℕ → Reading N  -- 14.3.3 BindingProperty : SingleNameBinding
  binding_shorthand_of at =
      if token sheet (at + 1) is Eq then (do
        initializer ← ask (assignment (at + 2))
        make Row.BindingShorthandInit (at + 1) at initializer.end (cons (leaf Row.BindingName at) initializer.trees))
      else make Row.BindingShorthand at at (at + 1) (one (leaf Row.BindingName at))

  unfoldable pub binding_property_of : ℕ → Reading N  -- 14.3.3 BindingProperty : SingleNameBinding | PropertyName : BindingElement
  binding_property_of at =
      if is_name (token sheet at) and not (token sheet (at + 1) is Colon) then binding_shorthand_of at
      else do
        name ← ask (key at)
        want sheet Colon name.end
        content ← ask (binding_element (name.end + 1))
        make Row.Property at at content.end (join name.trees content.trees)
