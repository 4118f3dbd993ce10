use Rattle.std.proofs.Common.{◌≡◌, map, take}
use Rattle.nal_term.specs.Trees.{formula_tree}
use Rattle.session_wire.specs.Frames.{request_frame}
use Rattle.peer_labels.specs.Requests.{bundle_requests}
use Rattle.nexus_client.proofs.imports.requests_of.Given as goal

abbrev pub invariant-loop-label : goal.invariant-loop-label
invariant-loop-label l = l.requests ≡ map request_frame (bundle_requests l.fn.name l.fn.secret (map formula_tree (take l.label-index l.label-items)))
