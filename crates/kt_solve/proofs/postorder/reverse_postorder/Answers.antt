use Rattle.std.proofs.Common.{◌≡◌, length, rules}
use Rattle.kt_solve.specs.Walks.{IsListing}
use Rattle.kt_solve.proofs.Listing.{listing_permuted}
use Rattle.kt_solve.proofs.postorder.reverse_postorder.Goals as goal

pub returns : goal.returns
returns g c =
    let e : length c.deref.result.now ≡ c.args.p.now.nodes = search rules in
    let i : IsListing c.args.p.now.nodes c.list_others.new.order.items = rw e at c.in_ok-list_others.ensures in
    listing_permuted c.args.p.now.nodes _ c.reverse.new.self.items c.reverse.ensures.permutation i
