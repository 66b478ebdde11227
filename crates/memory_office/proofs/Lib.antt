mod KnownLemmas
