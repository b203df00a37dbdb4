mod StepLoop
