-- What holds of all calls holds of the accepted ones.
use Rattle.std.proofs.Common.{Bool, true, false, List, [], ◌∷◌, All}
use Rattle.std.proofs.lemmas.List.Elements.{All-nil, All-cons, All-head, All-tail}
use Rattle.cookie.specs.History.{accepted_items}

pub All-accepted_items : {X : Type 0} (P : X → Type 0) (outcomes : List Bool) (xs : List X) → All P xs → All P (accepted_items outcomes xs)
All-accepted_items P [] xs all = All-nil P
All-accepted_items P (b ∷ bs) [] all = All-nil P
All-accepted_items P (true ∷ bs) (x ∷ xs) all = All-cons P x (accepted_items bs xs) (All-head P x xs all) (All-accepted_items P bs xs (All-tail P x xs all))
All-accepted_items P (false ∷ bs) (x ∷ xs) all = All-accepted_items P bs xs (All-tail P x xs all)
