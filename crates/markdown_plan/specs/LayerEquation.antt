-- What a construct asks of the layer that its states stand in.
use Rattle.std.specs.Prelude.{◌≡◌}
use Rattle.markdown_engine.specs.StateWords.{StateWords, Words, Law, words_in}
use Rattle.markdown_event.specs.declared.state.StateName.{StateName}

-- it says of these states what the construct says of them; `states` gives its words for its own states and those that it calls,
-- and for any other what it is given
abbrev pub EqualsLayer : ((StateName → StateWords) → StateName → StateWords) → Words → Type 1
EqualsLayer states W = (s : StateName) → words_in W s ≡ states (words_in W) s

-- among these states the law of each state of a table holds
abbrev pub AreLawful : Words → (StateName → StateWords) → Type 0
AreLawful W table = (s : StateName) → Law W (table s)
