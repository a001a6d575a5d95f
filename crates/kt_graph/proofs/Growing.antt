-- How additions to a graph follow one another.
use Rattle.std.proofs.Common.{◌≡◌, ℕ, ◌+◌, ◌<◌, List, [], ◌∷◌, ◌++◌, map, length, get_or, drop, reverse, refl, sym, ap, ◌∙◌, append_assoc, append-nil, arith, subst, Option, Some, None, length-append}
use Rattle.std.proofs.lemmas.List.{reverse-append, map-append}
use Rattle.kt_model.specs.declared.graph.EdgeRow.{EdgeRow}
use Rattle.kt_model.specs.ControlFlow.{Node, Edge, lead, on}
use Rattle.kt_model.specs.Bodies.{edges_at, edge_at, node_at}
use Rattle.kt_graph.specs.Building.{Ends, Grows, Enters, place_at, context_at}
use Rattle.kt_graph.specs.declared.building.Builder.{Builder}
use Rattle.kt_graph.specs.declared.building.FlowContext.{FlowContext}

-- what ends with a later graph ends with the earlier one
pub back : {a b : Builder} {xs : List Node} {es : List Node → List Edge} → Grows a b xs es → (ns : List Node) → Ends b ns → Ends a ns
back {a} {b} {xs} p ns h = record {
  rest = h.rest ++ xs;
  is = h.is ∙ ap (λ l. h.rest ++ l) p.has_nodes ∙ sym (append_assoc h.rest xs (reverse a.nodes.items));
  ahead = length-append h.rest xs ∙ ap (λ n. n + length xs) h.ahead ∙ sym p.has_room;
}

-- nothing added
pub still : (a : Builder) → Grows a a [] (λ ns. [])
still a = record { has_nodes = refl; has_room = omega arith; has_edges = λ ns h. refl }

-- one addition after another
pub then : {a b c : Builder} {xs ys : List Node} {es fs : List Node → List Edge} → Grows a b xs es → Grows b c ys fs → Grows a c (ys ++ xs) (λ ns. fs ns ++ es ns)
then {a} {b} {c} {xs} {ys} {es} {fs} p q = record {
  has_nodes = q.has_nodes ∙ ap (λ l. ys ++ l) p.has_nodes ∙ sym (append_assoc ys xs (reverse a.nodes.items));
  has_room = omega (arith, length-append ys xs, p.has_room, q.has_room);
  has_edges = λ ns h.
      q.has_edges ns h
      ∙ ap (λ l. fs ns ++ l) (p.has_edges ns (back q ns h))
      ∙ sym (append_assoc (fs ns) (es ns) (edges_at ns (reverse a.edges.items)));
}

-- the same addition, told otherwise
pub told : {a b : Builder} {xs ys : List Node} {es fs : List Node → List Edge} → Grows a b xs es → xs ≡ ys → ((ns : List Node) → Ends b ns → es ns ≡ fs ns) → Grows a b ys fs
told {a} {b} {xs} {ys} {es} {fs} p e f = record {
  has_nodes = p.has_nodes ∙ ap (λ l. l ++ reverse a.nodes.items) e;
  has_room = p.has_room ∙ ap (λ l. b.ahead + length l) e;
  has_edges = λ ns h. p.has_edges ns h ∙ ap (λ l. l ++ edges_at ns (reverse a.edges.items)) (f ns h);
}

-- one edge more
pub edge_added : {a b : Builder} {row : EdgeRow} → b.nodes.items ≡ a.nodes.items → b.ahead ≡ a.ahead → b.edges.items ≡ a.edges.items ++ row ∷ [] → Grows a b [] (λ ns. edge_at ns row ∷ [])
unfolding edges_at
edge_added {a} {b} {row} e r f = record {
  has_nodes = ap reverse e;
  has_room = omega (arith, r);
  has_edges = λ ns h. ap (λ l. map (edge_at ns) (reverse l)) f ∙ ap (map (edge_at ns)) (reverse-append a.edges.items (row ∷ []));
}

-- one addition after another, with what each found
pub next : {a b c : Builder} {xs ys : List Node} {es fs : List Node → List Edge} {P Q : List Node → Type 0} → Enters a b xs es P → Enters b c ys fs Q → Enters a c (ys ++ xs) (λ ns. fs ns ++ es ns) (λ ns. P ns × Q ns)
next p q = record {
  grows = then p.grows q.grows;
  is_found = λ ns s. (p.is_found ns (back q.grows ns s), q.is_found ns s);
}

-- all that was added, told as the definition tells it
pub whole : {a b : Builder} {xs ys : List Node} {es fs : List Node → List Edge} {P Q : List Node → Type 0} → Enters a b xs es P → xs ≡ ys → ((ns : List Node) → P ns → es ns ≡ fs ns) → ((ns : List Node) → P ns → Q ns) → Enters a b ys fs Q
whole p e f g = record {
  grows = told p.grows e (λ ns s. f ns (p.is_found ns s));
  is_found = λ ns s. g ns (p.is_found ns s);
}

-- an addition that finds nothing
pub grown : {a b : Builder} {xs : List Node} {es : List Node → List Edge} → Grows a b xs es → Enters a b xs es (λ ns. Unit {0})
grown p = record { grows = p; is_found = λ ns s. tt }

-- edges between nodes that are there
pub next_edges : {a b c : Builder} {xs : List Node} {es fs : List Node → List Edge} {P : List Node → Type 0} → Enters a b xs es P → Grows b c [] fs → Enters a c xs (λ ns. fs ns ++ es ns) P
next_edges p q = whole (next p (grown q)) refl (λ ns h. refl) (λ ns h. h.0)
