-- Events whose runs stand in order may be given to the pass that pairs runs.
use Rattle.std.specs.Prelude.{◌≡◌, ◌≤◌, [], length, IsUtf8}
use Rattle.markdown_content.specs.Content.{document_limit}
use Rattle.markdown_engine.specs.declared.tokenizer.Tokenizer.{Tokenizer}
use Rattle.markdown_attention.specs.RunsInOrder.{HaveRunsInOrder}
use Rattle.markdown_attention.specs.AttentionPass.{MayPair}

-- where no edit is left, and the document is UTF-8 and no longer than a content's may be
abbrev pub RunsInOrderMayPair : Type 0
RunsInOrderMayPair =
    (T : Tokenizer)
    → T.map ≡ [] → IsUtf8 T.parse_state.now.bytes.now → length T.parse_state.now.bytes.now ≤ document_limit
    → HaveRunsInOrder T.parse_state.now.bytes.now T.events
    → MayPair T
