mod DecideCases
