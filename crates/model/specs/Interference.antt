-- Document 01, "Who delays whom". The first flow named is the one that is delayed: `direct_for p i j` is "j is direct for i".
use Rattle.std.specs.Prelude.{Bool, true, false, not, ◌&&◌, List, [], ◌∷◌, ltb}
use Rattle.plan_values.specs.declared.Platform.{Platform}
use Rattle.plan_values.specs.declared.Flow.{Flow}
use Rattle.model.specs.Links.{pair_of}

-- "j is direct for i when j has higher priority and they share a link." Priority 1 is the highest.
unfoldable pub direct_for : Platform → Flow → Flow → Bool
direct_for p i j = ltb j.priority i.priority && ltb 0 (pair_of p i j).count

-- "For j direct for i, take every k direct for j and not direct for i."
unfoldable pub indirect_for : Platform → Flow → Flow → Flow → Bool
indirect_for p i j k = direct_for p j k && not (direct_for p i k)

-- "its links shared with j come before those j shares with i on j's route": the first places on j's route tell it.
unfoldable pub comes_before : Platform → Flow → Flow → Flow → Bool
comes_before p i j k = ltb (pair_of p j k).first (pair_of p j i).first

-- "Such a k is upstream for (i, j) when its links .. come before ..; otherwise they all come after and k is downstream."
abbrev pub upstream_for : Platform → Flow → Flow → Flow → Bool
upstream_for p i j k = indirect_for p i j k && comes_before p i j k

abbrev pub downstream_for : Platform → Flow → Flow → Flow → Bool
downstream_for p i j k = indirect_for p i j k && not (comes_before p i j k)

-- A flow in front of others, if it passes.
abbrev pub keep : Bool → Flow → List Flow → List Flow
keep true f rest = f ∷ rest
keep false f rest = rest

-- The flows of a plan that pass a test, in plan order.
unfoldable pub those : (Flow → Bool) → List Flow → List Flow
those test [] = []
those test (f ∷ fs) = keep (test f) f (those test fs)
